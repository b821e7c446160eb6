use Rattle.std.proofs.Common.{◌≡◌, drop}
use Rattle.diagram.specs.Wiring.{ports_within}
use Rattle.diagram.proofs.wiring.ports_within.Given as goal

abbrev pub invariant-loop-k : goal.invariant-loop-k
invariant-loop-k l = ports_within l.inputs l.wires l.k (drop l.k l.blocks) ≡ ports_within l.inputs l.wires 0 l.blocks
