use Rattle.std.proofs.Common.{◌≡◌, suc, ◌+◌, ◌<◌, length, get_or, take, set, sym, ap, ◌∙◌, subst, arith, None}
use Rattle.std.proofs.lemmas.List.{get_or_read}
use Rattle.draft.specs.Drawings.{blank}
use Rattle.diagram.specs.Diagrams.{drawing}
use Rattle.machine.specs.Machine.{next_cells}
use Rattle.machine.specs.Tables.{cell_at, block_at, next_cell}
use Rattle.tables.proofs.Closings.{next_later, next_more}
use Rattle.tables.proofs.Places.{ports_below}
use Rattle.tables.proofs.closing.move_cells.Goals as goal

pub next_of-requires : goal.next_of-requires
next_of-requires g c =
    let d = c.args.diagram.now in
    let k = c.loop-k.k in
    let inside : k < length (drawing d).blocks = subst (λ bs. k < length bs) c.blocks-block-items.ensures c.loop-k-test.true in
    (ports_below d c.args.wires.now k (get_or c.blocks-block-items.result.now k blank) c.requires.wires_fit inside (ap (λ bs. get_or bs k blank) c.blocks-block-items.ensures)).0

pub loop-k-preserved : goal.loop-k-preserved
loop-k-preserved g c =
    let d = drawing c.args.diagram.now in
    let k = c.loop-k.k in
    let m = g.K.Kit.meaning c.args.kit.now in
    let from = c.args.cells.now in
    let ws = c.args.wires.now in
    let cells = c.loop-k.cells in
    let inside : k < length d.blocks = subst (λ bs. k < length bs) c.blocks-block-items.ensures c.loop-k-test.true in
    let here : k < length cells = omega (arith, inside, c.requires.cells_fit, c.loop-k.auto.cells) in
    let was : c.index-cells-k.result ≡ cell_at from k =
    get_or_read cells k c.index-cells-k.result here c.index-cells-k.is None ∙ ap (λ cs. cell_at cs k) c.loop-k.invariant ∙ next_later m ws d.blocks k from inside in
    let moved =
    c.next_of.ensures
    ∙ ap (λ bs. next_cell m ws (get_or bs k blank) c.index-cells-k.result) c.blocks-block-items.ensures
    ∙ ap (next_cell m ws (block_at d k)) was in
    let one_more : suc k ≡ k + 1 = omega arith in
    ap (λ cs. set cs k c.next_of.result) c.loop-k.invariant
    ∙ ap (set (next_cells m ws (take k d.blocks) from) k) moved
    ∙ sym (next_more m ws d.blocks k from inside (omega (arith, inside, c.requires.cells_fit)))
    ∙ ap (λ n. next_cells m ws (take n d.blocks) from) one_more
