-- A table of marks stands for the wires that are driven.
use Rattle.std.specs.Prelude.{ℕ, ◌+◌, ◌<◌, Bool, cond, List, [], ◌∷◌}

-- the wires from w on whose mark is set
abbrev pub marked : ℕ → List Bool → List ℕ
marked w [] = []
marked w (m ∷ ms) = cond m (w ∷ marked (w + 1) ms) (marked (w + 1) ms)

abbrev pub Below : ℕ → List ℕ → Type 0
Below n [] = Unit {0}
Below n (w ∷ ws) = (w < n) × Below n ws
