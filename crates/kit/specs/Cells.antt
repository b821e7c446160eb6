-- Cells, and what passes between cells and signals.
use Rattle.std.specs.Prelude.{Option, None, Some}
use Rattle.kit.specs.declared.signal.Signal.{Signal}
use Rattle.kit.specs.declared.signal.Signal.TheVariants.{Unknown, Absent, Present}

-- the state of a block: a value, or none where it is empty
abbrev pub Cell : Type 0 → Type 0
Cell V = Option V

-- what a cell shows: its value, absent if it is empty
abbrev pub shown : {V : Type 0} → Cell V → Signal V
shown None = Absent
shown (Some v) = Present v

-- the cell that takes a signal: its value, empty if it is absent; an unknown signal leaves the cell
abbrev pub taking : {V : Type 0} → Cell V → Signal V → Cell V
taking cell Unknown = cell
taking cell Absent = None
taking cell (Present v) = Some v
