-- A tick in the subject's terms.
use Rattle.std.specs.Prelude.{◌≡◌, ℕ, ◌-◌, ◌<◌, List, [], ◌∷◌, ◌++◌, length, replicate, Some, None, Option, ◌≢◌}
use Rattle.kit.specs.declared.signal.Signal.{Signal}
use Rattle.kit.specs.declared.signal.Signal.TheVariants.{Unknown}
use Rattle.kit.specs.Cells.{Cell}
use Rattle.kit.specs.Meaning.{Meaning}
use Rattle.draft.specs.Drawings.{Drawing}
use Rattle.machine.specs.declared.answers.Given.{Given}
use Rattle.machine.specs.declared.answers.Closed.{Closed}
use Rattle.machine.specs.declared.answers.Closed.TheVariants.{Kept}
use Rattle.machine.specs.Logs.{Moved}
use Rattle.machine.specs.Machine.{signal_of}
use Rattle.machine.specs.Settling.{settled}
use Rattle.machine.specs.Solutions.{Least}
use Rattle.machine.specs.Tables.{at}

-- the inputs that are supplied, in the order of the wires; unknown where nothing is
abbrev pub inputs_given : {V : Type 0} → List (Option (Given V)) → List (Signal V)
inputs_given [] = []
inputs_given (None ∷ gs) = Unknown ∷ inputs_given gs
inputs_given (Some g ∷ gs) = signal_of g ∷ inputs_given gs

-- the wires before the settle: the inputs as they are supplied, and every other wire unknown
abbrev pub wires_given : {V : Type 0} → Drawing → List (Option (Given V)) → List (Signal V)
wires_given d gs = inputs_given gs ++ replicate (d.wires - d.inputs) Unknown

abbrev pub NoneUnknown : {V : Type 0} → List (Signal V) → Type 0
NoneUnknown wires = (w : ℕ) → w < length wires → at wires w ≢ Unknown

-- A tick over these cells and inputs, closed with keep: it leaves the least solution on its wires; its rounds are those that
-- settling takes from the inputs alone; it is kept exactly if no wire is unknown; then each cell becomes its next on those
-- wires, and otherwise every cell stays.
pub record Solves {V : Type 0} (m : Meaning V) (d : Drawing) (cells : List (Cell V)) (gs : List (Option (Given V))) (closed : Closed) (rounds : ℕ) (wires : List (Signal V)) (cells' : List (Cell V)) : Type 0 where
  pub least : Least m d cells (inputs_given gs) wires
  pub took : rounds ≡ (settled m d cells (wires_given d gs)).count
  pub all_known : closed ≡ Kept → NoneUnknown wires
  pub kept : NoneUnknown wires → closed ≡ Kept
  pub moved : closed ≡ Kept → Moved m d wires cells cells'
  pub stayed : (closed ≢ Kept) → cells' ≡ cells
