use Rattle.std.proofs.Common.{◌≡◌, drop}
use Rattle.machine.specs.Machine.{kinds_fit}
use Rattle.run.proofs.making.kinds_fit.Given as goal

abbrev pub invariant-loop-k : goal.invariant-loop-k
invariant-loop-k g l = kinds_fit (g.K.Kit.meaning l.kit) l.k (drop l.k l.blocks) ≡ kinds_fit (g.K.Kit.meaning l.kit) 0 l.blocks
