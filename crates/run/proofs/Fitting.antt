-- The tables of a run that is not void fit.
use Rattle.std.proofs.Common.{◌≡◌, ℕ, Bool, true, false, cond, List, length, Ok, Err, Result, refl}
use Rattle.text.specs.declared.fault.Fault.{Fault}
use Rattle.text.specs.Results.{then}
use Rattle.kit.specs.declared.signal.Signal.{Signal}
use Rattle.machine.proofs.Lengths.{both_agree}
use Rattle.machine.specs.Machine.{State, Outcome, refused, accepted, with_wires}
use Rattle.tables.specs.Fitting.{fitting, where_taken}
use Rattle.run.specs.declared.run.Run.{Run}
use Rattle.run.specs.Phases.{is_void}
use Rattle.run.specs.Runs.{drawing_of_run}

pub run_fits : {V : Type 0} (r : Run V) → is_void r.phase ≡ false → fitting (drawing_of_run r) r.wires.now r.cells.now ≡ Ok tt
run_fits r h = both_agree (drawing_of_run r) (length r.wires.now) (length r.cells.now) (r.wires_fit h) (r.cells_fit h)

-- whether the block is outside
abbrev pub within : Bool → Fault → Result (Unit {0}) Fault
within past f = cond past (Err f) (Ok tt)

-- a firing in an open tick, answer and wires apart
pub fire_apart : {V : Type 0} (s : State V) (past : Bool) (f : Fault) (n : ℕ) (after : List (Signal V)) → ◌≡◌ {A = Outcome V (Result ℕ Fault)} (cond past (refused s f) (accepted n (with_wires s after))) (record { answer = then (within past f) (λ _. Ok n); state = with_wires s (where_taken (within past f) after s.wires) })
fire_apart s true f n after = refl
fire_apart s false f n after = refl
