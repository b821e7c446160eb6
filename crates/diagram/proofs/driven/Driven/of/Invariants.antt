use Rattle.std.proofs.Common.{◌≡◌, ℕ, List, [], drop}
use Rattle.std.specs.FinSet.{from_list}
use Rattle.diagram.specs.Wiring.{driven_in}
use Rattle.diagram.proofs.driven.Driven.of.Given as goal

-- the wires driven so far, and what the blocks left will tell
abbrev pub invariant-loop-k : goal.invariant-loop-k
invariant-loop-k l = (wires : List ℕ) × (driven_in l.k wires (drop l.k l.blocks) ≡ driven_in 0 [] l.blocks) × (l.driven ≡ from_list wires)
