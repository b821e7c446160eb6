use Rattle.std.proofs.Common.{Err, sym, ap, ◌∙◌}
use Rattle.std.proofs.lemmas.Result.{err_from_is_err_and}
use Rattle.text.specs.Results.{then}
use Rattle.diagram.specs.Diagrams.{drawing}
use Rattle.machine.specs.Machine.{kinds_fit}
use Rattle.machine.proofs.Lengths.{checked_so}
use Rattle.run.proofs.making.check_new.Goals as goal

pub returns-in_err-check_lengths : goal.returns-in_err-check_lengths
returns-in_err-check_lengths g c =
    let p = err_from_is_err_and c.from_residual.result c.from_residual.ensures.1 in
    let m = g.K.Kit.meaning c.args.kit.now in
    let d = drawing c.args.diagram.now in
    p.1 ∙ ap Err p.2 ∙ sym (checked_so d c.args.wires c.args.cells m ∙ ap (λ r. then r (λ _. kinds_fit m 0 d.blocks)) (sym c.in_err-check_lengths.ensures.answer))

pub returns : goal.returns
returns g c =
    let m = g.K.Kit.meaning c.args.kit.now in
    let d = drawing c.args.diagram.now in
    c.kinds_fit.ensures ∙ ap (kinds_fit m 0) c.blocks-2.ensures
    ∙ sym (checked_so d c.args.wires c.args.cells m ∙ ap (λ r. then r (λ _. kinds_fit m 0 d.blocks)) (sym c.in_ok-check_lengths.ensures.answer))
