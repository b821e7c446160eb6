-- Whether tables fit a diagram.
use Rattle.std.specs.Prelude.{ℕ, cond, List, length, Ok, Err, Result, nat_le}
use Rattle.text.specs.declared.fault.Cause.TheVariants.{NumberOutside}
use Rattle.text.specs.declared.fault.Fault.{Fault}
use Rattle.text.specs.Results.{then, fault}
use Rattle.kit.specs.declared.signal.Signal.{Signal}
use Rattle.kit.specs.Cells.{Cell}
use Rattle.draft.specs.Drawings.{Drawing}
use Rattle.machine.specs.Machine.{lengths_fit}

-- whether the tables fit, by their lengths
abbrev pub fitting : {V : Type 0} → Drawing → List (Signal V) → List (Cell V) → Result (Unit {0}) Fault
fitting d wires cells = lengths_fit d (length wires) (length cells)

-- whether they fit and block k is one of the diagram's
abbrev pub fitting_at : {V : Type 0} → Drawing → List (Signal V) → List (Cell V) → ℕ → Result (Unit {0}) Fault
fitting_at d wires cells k = then (fitting d wires cells) (λ _. cond (nat_le (length d.blocks) k) (Err (fault NumberOutside k (length d.blocks))) (Ok tt))

-- what is done where nothing is refused; a refusal leaves the table as it was
abbrev pub where_taken : {A : Type 0} → Result (Unit {0}) Fault → A → A → A
where_taken (Ok u) done was = done
where_taken (Err f) done was = was
