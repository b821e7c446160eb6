use Rattle.std.proofs.Common.{◌≡◌, drop}
use Rattle.diagram.specs.Wiring.{each_within}
use Rattle.diagram.proofs.wiring.within.Given as goal

-- what the ports left will tell
abbrev pub invariant-loop-w : goal.invariant-loop-w
invariant-loop-w l = each_within l.low l.high l.k (drop l.w-index l.ports) ≡ each_within l.low l.high l.k l.ports
