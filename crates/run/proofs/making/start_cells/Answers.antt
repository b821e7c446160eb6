use Rattle.std.proofs.Common.{◌≡◌, ◌<◌, List, [], ◌∷◌, ◌++◌, length, get_or, take, sym, refl, ap, ◌∙◌, subst, arith, rules}
use Rattle.std.proofs.lemmas.List.{take_all, take_more, take_more_set}
use Rattle.kit.specs.Meaning.{Meaning}
use Rattle.draft.specs.declared.block.Block.{Block}
use Rattle.draft.specs.Drawings.{blank}
use Rattle.diagram.specs.Diagrams.{drawing}
use Rattle.machine.specs.Machine.{starts}
use Rattle.machine.specs.Tables.{block_at}
use Rattle.run.proofs.making.start_cells.Goals as goal

starts_append : {V : Type 0} (m : Meaning V) (bs cs : List Block) → starts m (bs ++ cs) ≡ starts m bs ++ starts m cs
starts_append m [] cs = refl
starts_append m (b ∷ bs) cs = ap (λ x. m.start b.kind b.parameter ∷ x) (starts_append m bs cs)

pub offset_bounds-cells-k : goal.offset_bounds-cells-k
offset_bounds-cells-k g c =
    let lent : c.loop-k.k < length c.args.cells.now = omega (arith, c.loop-k-test.true, ap length c.blocks-block-items.ensures, c.requires) in
    search rules

pub loop-k-preserved : goal.loop-k-preserved
loop-k-preserved g c =
    let d = drawing c.args.diagram.now in
    let m = g.K.Kit.meaning c.args.kit.now in
    let k = c.loop-k.k in
    let cells = c.loop-k.cells in
    let inside : k < length d.blocks = subst (λ bs. k < length bs) c.blocks-block-items.ensures c.loop-k-test.true in
    let started = c.start_of.ensures ∙ ap (λ bs. m.start (get_or bs k blank).kind (get_or bs k blank).parameter) c.blocks-block-items.ensures in
    take_more_set cells k c.start_of.result (omega (arith, inside, c.requires, c.loop-k.auto.cells))
    ∙ ap (λ cs. cs ++ c.start_of.result ∷ []) c.loop-k.invariant
    ∙ ap (λ x. starts m (take k d.blocks) ++ x ∷ []) started
    ∙ sym (ap (starts m) (take_more d.blocks k blank inside) ∙ starts_append m (take k d.blocks) (block_at d k ∷ []))

pub returns : goal.returns
returns g c =
    let d = drawing c.args.diagram.now in
    let m = g.K.Kit.meaning c.args.kit.now in
    let k = c.loop-k.k in
    sym (take_all k c.loop-k.cells (omega (arith, c.loop-k-test.false, ap length c.blocks-block-items.ensures, c.requires, c.loop-k.auto.cells)))
    ∙ c.loop-k.invariant
    ∙ ap (starts m) (take_all k d.blocks (omega (arith, c.loop-k-test.false, ap length c.blocks-block-items.ensures)))
