use Rattle.std.proofs.Common.{◌+◌, get_or, drop, Err, sym, ap, ◌∙◌}
use Rattle.std.proofs.lemmas.List.{at_drop_more, at_drop_all}
use Rattle.std.proofs.lemmas.Bool.{cond-true, cond-false}
use Rattle.text.specs.declared.fault.Cause.TheVariants.{KitDiffers}
use Rattle.text.specs.Results.{fault}
use Rattle.draft.specs.Drawings.{blank}
use Rattle.machine.specs.Machine.{fits, kinds_fit}
use Rattle.run.proofs.making.kinds_fit.Goals as goal

pub loop-k-preserved : goal.loop-k-preserved
loop-k-preserved g c =
    let m = g.K.Kit.meaning c.args.kit.now in
    let k = c.loop-k.k in
    let bs = c.args.blocks.now in
    let b = get_or bs k blank in
    sym (at_drop_more (kinds_fit m k) bs k blank c.loop-k-test.true ∙ cond-true (fits (m.ports b.kind) b) (kinds_fit m (k + 1) (drop (k + 1) bs)) (Err (fault KitDiffers k 0)) (sym c.if-not-fit.ensures))
    ∙ c.loop-k.invariant

pub returns-then-not-fit : goal.returns-then-not-fit
returns-then-not-fit g c =
    let m = g.K.Kit.meaning c.args.kit.now in
    let k = c.loop-k.k in
    let bs = c.args.blocks.now in
    let b = get_or bs k blank in
    ap Err c.new.ensures ∙ sym (at_drop_more (kinds_fit m k) bs k blank c.loop-k-test.true ∙ cond-false (fits (m.ports b.kind) b) (kinds_fit m (k + 1) (drop (k + 1) bs)) (Err (fault KitDiffers k 0)) (sym c.if-not-fit.ensures))
    ∙ c.loop-k.invariant

pub returns : goal.returns
returns g c =
    sym (at_drop_all (kinds_fit (g.K.Kit.meaning c.args.kit.now) c.loop-k.k) c.args.blocks.now c.loop-k.k c.loop-k-test.false) ∙ c.loop-k.invariant
