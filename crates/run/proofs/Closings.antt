-- A close that keeps, answer and cells apart.
use Rattle.std.proofs.Common.{◌≡◌, ℕ, Bool, true, false, cond, eqb, List, length, Result, refl}
use Rattle.text.specs.declared.fault.Fault.{Fault}
use Rattle.kit.specs.Cells.{Cell}
use Rattle.kit.specs.Meaning.{Meaning}
use Rattle.draft.specs.Drawings.{Drawing}
use Rattle.machine.specs.declared.answers.Closed.{Closed}
use Rattle.machine.specs.declared.answers.Closed.TheVariants.{Kept, Undetermined}
use Rattle.machine.specs.declared.answers.Intent.TheVariants.{Keep}
use Rattle.machine.specs.Machine.{State, Outcome, accepted, closed_by, resting_with, lowest_unknown, next_cells}
use Rattle.tables.specs.Closings.{kept_answer, kept_cells}

closed_apart : {V : Type 0} (s : State V) (b : Bool) (w : ℕ) (moved still : List (Cell V)) → ◌≡◌ {A = Outcome V (Result Closed Fault)} (cond b (accepted Kept (resting_with s moved)) (accepted (Undetermined w) (resting_with s still))) (accepted (cond b Kept (Undetermined w)) (resting_with s (cond b moved still)))
closed_apart s true w moved still = refl
closed_apart s false w moved still = refl

pub closed_keep : {V : Type 0} (m : Meaning V) (d : Drawing) (s : State V) → closed_by Keep m d s ≡ accepted (kept_answer s.wires) (resting_with s (kept_cells m d s.wires s.cells))
closed_keep m d s = closed_apart s (eqb (lowest_unknown s.wires) (length s.wires)) (lowest_unknown s.wires) (next_cells m s.wires d.blocks s.cells) s.cells
