-- What a close that keeps answers, and the cells after it.
use Rattle.std.specs.Prelude.{cond, List, length, ◌==◌}
use Rattle.kit.specs.declared.signal.Signal.{Signal}
use Rattle.kit.specs.Cells.{Cell}
use Rattle.kit.specs.Meaning.{Meaning}
use Rattle.draft.specs.Drawings.{Drawing}
use Rattle.machine.specs.declared.answers.Closed.{Closed}
use Rattle.machine.specs.declared.answers.Closed.TheVariants.{Kept, Undetermined}
use Rattle.machine.specs.Machine.{lowest_unknown, next_cells}

abbrev pub kept_answer : {V : Type 0} → List (Signal V) → Closed
kept_answer wires = cond (lowest_unknown wires == length wires) Kept (Undetermined (lowest_unknown wires))

abbrev pub kept_cells : {V : Type 0} → Meaning V → Drawing → List (Signal V) → List (Cell V) → List (Cell V)
kept_cells m d wires cells = cond (lowest_unknown wires == length wires) (next_cells m wires d.blocks cells) cells
