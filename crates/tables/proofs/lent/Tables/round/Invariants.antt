use Rattle.std.proofs.Common.{◌≡◌, ◌+◌, length}
use Rattle.machine.specs.Firing.{fired}
use Rattle.machine.specs.Tables.{known}
use Rattle.tables.specs.Lent.{drawing_of_tables}
use Rattle.tables.proofs.lent.Tables.round.Given as goal

-- so many blocks are fired
abbrev pub invariant-loop-block : goal.invariant-loop-block
invariant-loop-block g l =
    (goal.iterator-loop-block g).can_next l.block-iterator
    × (goal.iterator-loop-block g).is_finite l.block-iterator
    × (l.wires ≡ fired (g.K.Kit.meaning l.kit) (drawing_of_tables l.fn.self) l.fn.self.cells.now l.initial.wires (length l.yielded))
    × (l.known + known l.initial.wires ≡ known l.wires)
