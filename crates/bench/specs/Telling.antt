-- What a list tells, in the subject's terms.
use Rattle.std.specs.Prelude.{◌≡◌, ℕ, ◌+◌, List, [], ◌∷◌, ℤ, Ok, Option}
use Rattle.text.specs.Pieces.{fields_of}
use Rattle.kit.specs.Cells.{Cell}
use Rattle.kit.specs.Meaning.{Meaning}
use Rattle.draft.specs.Drawings.{Drawing}
use Rattle.machine.specs.declared.answers.Given.{Given}
use Rattle.machine.specs.Machine.{starts}
use Rattle.tick.specs.Solving.{Solves}
use Rattle.bench.specs.Lists.{Shown, drawn, cut_at, first_tick, tick_lines, listed}
use Rattle.bench.specs.TickLines.{tick_line}

-- Each tick that is shown has a line, from line k on; it shows the least solution for the cells that the kept ticks before
-- it gave and the inputs of its line, and the rounds that settling took, and is kept exactly if no wire of that solution is
-- unknown.
abbrev pub Tells : {V : Type 0} → (ℤ → Option V) → Meaning V → Drawing → List (Cell V) → ℕ → List (List ℕ) → List (Shown V) → Type 0
Tells valued m d cells k lines [] = Unit {0}
Tells valued m d cells k [] (x ∷ xs) = ⊥
Tells {V} valued m d cells k (line ∷ lines) (x ∷ xs) =
    (gs : List (Option (Given V))) × (cells' : List (Cell V)) × (tick_line valued k d.inputs (fields_of line) ≡ Ok gs) × Solves m d cells gs x.closed x.rounds x.wires cells' × Tells valued m d cells' (k + 1) lines xs

-- the whole list, from the first cells of its diagram on
unfoldable pub TellsLeast : {V : Type 0} → (ℤ → Option V) → Meaning V → List ℕ → Type 0
TellsLeast valued m input = (d : Drawing) → drawn input (cut_at input) ≡ Ok d → Tells valued m d (starts m d.blocks) (first_tick input) (tick_lines input) (listed valued m input).shown
