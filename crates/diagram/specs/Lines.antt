-- The lines of a diagram's text.
use Rattle.std.specs.Prelude.{ℕ, List, [], ◌∷◌, codes, decimal}
use Rattle.std.specs.List.{flat_map}
use Rattle.draft.specs.Text.{line_of}

-- fields with a comma before each
abbrev pub after_commas : List (List ℕ) → List ℕ
after_commas fs = flat_map (λ f. 44 ∷ f) fs

-- the first line of a diagram's text
abbrev pub sizes_text : ℕ → ℕ → List ℕ
sizes_text e w = line_of (codes "diagram" ∷ decimal e ∷ decimal w ∷ [])
