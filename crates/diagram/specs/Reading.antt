-- What a text is read as: a drawing that is wired, or the fault that comes first.
use Rattle.std.specs.Prelude.{◌≡◌, ℕ, List, Ok, Err, Result}
use Rattle.text.specs.declared.fault.Fault.{Fault}
use Rattle.text.specs.Results.{then}
use Rattle.draft.specs.Drawings.{Drawing}
use Rattle.draft.specs.Reading.{draft_of}
use Rattle.draft.specs.Text.{text_of, Drawable}
use Rattle.diagram.specs.Wiring.{Wired, wiring_of}

abbrev pub checked : Drawing → Result Drawing Fault
checked d = then (wiring_of d) (λ _. Ok d)

-- the faults of the lines come first, then those of the wiring
unfoldable pub read_of : List ℕ → Result Drawing Fault
read_of text = then (draft_of text) checked

-- a reader's diagram, once it has read
abbrev pub after_read : Drawing → Result Drawing Fault → Drawing
after_read old (Ok d) = d
after_read old (Err f) = old

-- A diagram: within the limits, and wired.
pub record IsDiagram (d : Drawing) : Type 0 where
  pub drawable : Drawable d
  pub wired : Wired d

-- The law above these definitions: a text is read as d exactly when d is a diagram and the text is d's.
pub record ReadsExactly (text : List ℕ) : Type 0 where
  pub only : (d : Drawing) → read_of text ≡ Ok d → (text ≡ text_of d) × IsDiagram d
  pub all : (d : Drawing) → text ≡ text_of d → IsDiagram d → read_of text ≡ Ok d
