-- Every port of a diagram's block names one of its wires.
use Rattle.std.proofs.Common.{◌≡◌, ℕ, ◌<◌, ◌≤◌, List, [], ◌∷◌, length, get_or, sym, subst₂, ⊎_elim, arith}
use Rattle.std.specs.List.{flat_map}
use Rattle.std.proofs.lemmas.Bool.{cases_lt}
use Rattle.kit.specs.declared.signal.Signal.{Signal}
use Rattle.draft.specs.declared.block.Block.{Block}
use Rattle.draft.specs.Drawings.{blank}
use Rattle.diagram.specs.declared.diagram.Diagram.{Diagram}
use Rattle.diagram.specs.Diagrams.{drawing}
use Rattle.diagram.specs.Marks.{Below}
use Rattle.diagram.specs.Wiring.{ins, outs, times}
use Rattle.diagram.proofs.WiringLaws.{first_counts}
use Rattle.machine.specs.Tables.{block_at}
use Rattle.machine.proofs.Drives.{one_among}
use Rattle.tables.specs.InPlace.{InPlace}

below_from : (n : ℕ) (ws : List ℕ) → ((w : ℕ) → n ≤ w → times w ws ≡ 0) → Below n ws
below_from n [] h = tt
below_from n (x ∷ ws) h = (⊎_elim (λ l. l) (λ g. absurd (omega (arith, first_counts x ws, h x g))) (cases_lt x n), below_from n ws (λ w g. omega (arith, h w g)))

each_below : (f : Block → List ℕ) (n k : ℕ) (bs : List Block) → ((w : ℕ) → n ≤ w → times w (flat_map f bs) ≡ 0) → k < length bs → Below n (f (get_or bs k blank))
each_below f n k bs none l = below_from n (f (get_or bs k blank)) (λ w g. omega (arith, one_among f w k bs l, none w g))

-- every port of every block names one of the diagram's wires
pub in_place : (d : Diagram) → InPlace (drawing d).wires (drawing d).blocks
in_place d k l = (each_below (λ b. ins b.inputs) (drawing d).wires k (drawing d).blocks d.reads_below l, each_below (λ b. outs b.outputs) (drawing d).wires k (drawing d).blocks d.drives_within.1 l)

-- and so the ports of one of its blocks, in a table of as many wires
pub ports_below : {V : Type 0} (d : Diagram) (ws : List (Signal V)) (k : ℕ) (b : Block) → length ws ≡ (drawing d).wires → k < length (drawing d).blocks → b ≡ block_at (drawing d) k → Below (length ws) (ins b.inputs) × Below (length ws) (outs b.outputs)
ports_below d ws k b wide l is = subst₂ (λ m x. Below m (ins x.inputs) × Below m (outs x.outputs)) (sym wide) (sym is) (in_place d k l)
