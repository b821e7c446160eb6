use Rattle.std.proofs.Common.{◌≡◌, take}
use Rattle.diagram.specs.Diagrams.{drawing}
use Rattle.machine.specs.Machine.{next_cells}
use Rattle.tables.proofs.closing.move_cells.Given as goal

abbrev pub invariant-loop-k : goal.invariant-loop-k
invariant-loop-k g l = l.cells ≡ next_cells (g.K.Kit.meaning l.kit) l.wires (take l.k (drawing l.diagram).blocks) l.initial.cells
