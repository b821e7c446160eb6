-- Every diagram's text is read back as that diagram: what its type carries suffices.
use Rattle.std.proofs.Common.{◌≡◌, ℕ, suc, ◌<◌, ◌≤◌, List, [], ◌∷◌, length, get_or, take, sym, subst, ⊎_elim, arith}
use Rattle.std.specs.List.{flat_map}
use Rattle.std.proofs.lemmas.List.{length-take-le, get_or-take}
use Rattle.std.proofs.lemmas.Bool.{cases_lt}
use Rattle.draft.specs.declared.block.Block.{Block}
use Rattle.draft.specs.declared.block.InPorts.{InPorts}
use Rattle.draft.specs.declared.block.InPorts.TheVariants.{Zero, One as OneIn, Two as TwoIn, Three}
use Rattle.draft.specs.declared.block.OutPorts.{OutPorts}
use Rattle.draft.specs.declared.block.OutPorts.TheVariants.{One as OneOut, Two as TwoOut}
use Rattle.draft.specs.Drawings.{blank, InRange}
use Rattle.draft.specs.Limits.{last_wire}
use Rattle.draft.specs.Text.{AllLegible, InsLegible, OutsLegible}
use Rattle.diagram.specs.declared.diagram.Diagram.{Diagram}
use Rattle.diagram.specs.Diagrams.{drawing}
use Rattle.diagram.specs.Reading.{IsDiagram}
use Rattle.diagram.specs.Wiring.{ins, outs, times, readers, drivers}
use Rattle.diagram.proofs.WiringLaws.{times_append, first_counts}

-- no wire past the last stands in the list
abbrev Small : List ℕ → Type 0
Small ws = (w : ℕ) → last_wire < w → times w ws ≡ 0

abbrev Upto : List ℕ → Type 0
Upto [] = Unit {0}
Upto (w ∷ ws) = (w ≤ last_wire) × Upto ws

all_small : (ws : List ℕ) → Small ws → Upto ws
all_small [] h = tt
all_small (x ∷ ws) h = (⊎_elim (λ l. absurd (omega (arith, first_counts x ws, h x l))) (λ g. g) (cases_lt last_wire x), all_small ws (λ w l. omega (arith, h w l)))

ins_legible : (p : InPorts) → Upto (ins p) → InsLegible p
ins_legible Zero h = tt
ins_legible (OneIn a) h = h.0
ins_legible (TwoIn a b) h = (h.0, h.1.0)
ins_legible (Three a b c) h = (h.0, h.1.0, h.1.1.0)

outs_legible : (q : OutPorts) → Upto (outs q) → OutsLegible q
outs_legible (OneOut a) h = h.0
outs_legible (TwoOut a b) h = (h.0, h.1.0)

all_legible : (bs : List Block) → ((k : ℕ) → k < length bs → InRange (get_or bs k blank)) → ((w : ℕ) → last_wire < w → readers w bs ≡ 0) → ((w : ℕ) → last_wire < w → drivers w bs ≡ 0) → AllLegible bs
all_legible [] range reads drives = tt
all_legible (b ∷ bs) range reads drives =
    let here = range 0 (omega arith) in
    let in_sum = λ (w : ℕ). times_append w (ins b.inputs) (flat_map (λ c. ins c.inputs) bs) in
    let out_sum = λ (w : ℕ). times_append w (outs b.outputs) (flat_map (λ c. outs c.outputs) bs) in (
      record {
        known_range = here.0;
        signed_range = here.1;
        ins = ins_legible b.inputs (all_small (ins b.inputs) (λ w l. omega (arith, reads w l, in_sum w)));
        outs = outs_legible b.outputs (all_small (outs b.outputs) (λ w l. omega (arith, drives w l, out_sum w)));
      },
      all_legible bs (λ k l. range (suc k) (omega arith)) (λ w l. omega (arith, reads w l, in_sum w)) (λ w l. omega (arith, drives w l, out_sum w)),
    )

pub is_diagram : (d : Diagram) → IsDiagram (drawing d)
is_diagram d =
    let n = d.drawn in
    let bs = take n.count n.blocks in
    let long : length bs ≡ n.count = length-take-le n.count n.blocks (omega (arith, n.few_blocks, n.room)) in
    let range : (k : ℕ) → k < length bs → InRange (get_or bs k blank) = λ k l. subst InRange (sym (get_or-take n.count n.blocks k blank (omega arith))) (n.in_range k (omega arith)) in
    record {
      drawable = record {
        few_inputs = n.few_inputs;
        inputs_among = n.inputs_among;
        few_wires = n.few_wires;
        few_blocks = omega (arith, long, n.few_blocks);
        legible = all_legible bs range (λ w l. d.reads_below w (omega (arith, n.few_wires))) (λ w l. d.drives_within.1 w (omega (arith, n.few_wires)));
      };
      wired = record { reads_below = d.reads_below; drives_within = d.drives_within; driven_once = d.driven_once };
    }
