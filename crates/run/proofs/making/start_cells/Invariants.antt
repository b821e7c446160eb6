use Rattle.std.proofs.Common.{◌≡◌, take}
use Rattle.diagram.specs.Diagrams.{drawing}
use Rattle.machine.specs.Machine.{starts}
use Rattle.run.proofs.making.start_cells.Given as goal

abbrev pub invariant-loop-k : goal.invariant-loop-k
invariant-loop-k g l = take l.k l.cells ≡ starts (g.K.Kit.meaning l.kit) (take l.k (drawing l.diagram).blocks)
