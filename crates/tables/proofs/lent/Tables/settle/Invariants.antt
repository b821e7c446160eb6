use Rattle.std.proofs.Common.{◌-◌, length}
use Rattle.machine.specs.Tables.{known}
use Rattle.tables.proofs.Rounding.{Settling}
use Rattle.tables.proofs.lent.Tables.settle.Given as goal

abbrev pub invariant-loop-learned : goal.invariant-loop-learned
invariant-loop-learned g l = Settling (g.K.Kit.meaning l.kit) l.fn.self l.self l.rounds l.known

abbrev pub decreases-loop-learned : goal.decreases-loop-learned
decreases-loop-learned g l = length l.self.wires.now - known l.self.wires.now
