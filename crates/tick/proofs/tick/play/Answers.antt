use Rattle.std.proofs.Common.{◌≡◌, is_ok, Ok, Err, Result, sym, refl, ap, ◌∙◌}
use Rattle.std.proofs.lemmas.Result.{err_from_is_err_and}
use Rattle.machine.specs.declared.answers.Closed.{Closed}
use Rattle.run.specs.declared.token.CloseRefused.{CloseRefused}
use Rattle.run.specs.Runs.{state_of, drawing_of_run, token_of, close_answer}
use Rattle.tick.proofs.Playing.{not_begun, drop_taken, dropped, settle_runs, close_runs, whole}
use Rattle.tick.proofs.tick.play.Goals as goal

-- without the token a refusal is a refusal still
same_ok : (r : Result Closed CloseRefused) → is_ok (close_answer r) ≡ is_ok r
same_ok (Ok c) = refl
same_ok (Err x) = refl

pub returns-in_err-token : goal.returns-in_err-token
returns-in_err-token g c =
    let p = err_from_is_err_and c.from_residual.result c.from_residual.ensures.1 in
    let r = c.args.run.now in
    let done = c.in_err-token.ensures in
    let by = not_begun (g.K.Kit.meaning c.args.kit.now) (drawing_of_run r) (state_of r) c.args.inputs.now c.args.intent c.in_err-token.field-0.0 done.answer in
    record { answer = p.1 ∙ ap Err p.2 ∙ sym (ap (λ o. o.answer) by); state = done.state ∙ sym (ap (λ o. o.state) by); diagram = done.diagram }

pub unwrap-requires : goal.unwrap-requires
unwrap-requires g c =
    let m = g.K.Kit.meaning c.args.kit.now in
    let r = c.args.run.now in
    let gs = c.args.inputs.now in
    let i = c.args.intent in
    let t = token_of c.in_ok-token.token in
    let r₁ = c.begin.new.self in
    let one = c.in_ok-token.ensures in
    let r₂ = c.supply_all.new.run in
    let two = c.in-Err.ensures in
    sym (same_ok c.close.result) ∙ ap is_ok c.close.ensures.answer ∙ drop_taken m (drawing_of_run r) (state_of r) gs i t one.answer (drawing_of_run r₁) (state_of r₁) one.diagram one.state (drawing_of_run r₂) (state_of r₂) two.diagram two.state

pub returns-in-Err : goal.returns-in-Err
returns-in-Err g c =
    let m = g.K.Kit.meaning c.args.kit.now in
    let r = c.args.run.now in
    let gs = c.args.inputs.now in
    let i = c.args.intent in
    let t = token_of c.in_ok-token.token in
    let r₁ = c.begin.new.self in
    let one = c.in_ok-token.ensures in
    let r₂ = c.supply_all.new.run in
    let two = c.in-Err.ensures in
    let last = c.close.ensures in
    let by = dropped m (drawing_of_run r) (state_of r) gs i t one.answer (drawing_of_run r₁) (state_of r₁) one.diagram one.state (drawing_of_run r₂) (state_of r₂) two.diagram two.state c.in-Err.fault (state_of c.close.new.self) two.answer last.state in
    record { answer = sym (ap (λ o. o.answer) by); state = sym (ap (λ o. o.state) by); diagram = last.diagram ∙ two.diagram ∙ one.diagram }

pub unwrap-settled-requires : goal.unwrap-settled-requires
unwrap-settled-requires g c =
    let m = g.K.Kit.meaning c.args.kit.now in
    let r = c.args.run.now in
    let gs = c.args.inputs.now in
    let i = c.args.intent in
    let t = token_of c.in_ok-token.token in
    let r₁ = c.begin.new.self in
    let one = c.in_ok-token.ensures in
    let r₂ = c.supply_all.new.run in
    let two = c.in_default.ensures in
    ap is_ok c.settle.ensures.answer ∙ settle_runs m (drawing_of_run r) (state_of r) gs i t one.answer (drawing_of_run r₁) (state_of r₁) one.diagram one.state (drawing_of_run r₂) (state_of r₂) two.diagram two.state

pub unwrap-closed-requires : goal.unwrap-closed-requires
unwrap-closed-requires g c =
    let m = g.K.Kit.meaning c.args.kit.now in
    let r = c.args.run.now in
    let gs = c.args.inputs.now in
    let i = c.args.intent in
    let t = token_of c.in_ok-token.token in
    let r₁ = c.begin.new.self in
    let one = c.in_ok-token.ensures in
    let r₂ = c.supply_all.new.run in
    let two = c.in_default.ensures in
    let r₃ = c.settle.new.self in
    let three = c.settle.ensures in
    sym (same_ok c.close-2.result) ∙ ap is_ok c.close-2.ensures.answer ∙ close_runs m (drawing_of_run r) (state_of r) gs i t one.answer (drawing_of_run r₁) (state_of r₁) one.diagram one.state (drawing_of_run r₂) (state_of r₂) two.diagram two.state tt two.answer c.unwrap-settled.result (sym c.unwrap-settled.ensures ∙ three.answer) (drawing_of_run r₃) (state_of r₃) three.diagram three.state

pub returns : goal.returns
returns g c =
    let m = g.K.Kit.meaning c.args.kit.now in
    let r = c.args.run.now in
    let gs = c.args.inputs.now in
    let i = c.args.intent in
    let t = token_of c.in_ok-token.token in
    let r₁ = c.begin.new.self in
    let one = c.in_ok-token.ensures in
    let r₂ = c.supply_all.new.run in
    let two = c.in_default.ensures in
    let r₃ = c.settle.new.self in
    let three = c.settle.ensures in
    let last = c.close-2.ensures in
    let by = whole m (drawing_of_run r) (state_of r) gs i t one.answer (drawing_of_run r₁) (state_of r₁) one.diagram one.state (drawing_of_run r₂) (state_of r₂) two.diagram two.state tt two.answer c.unwrap-settled.result (sym c.unwrap-settled.ensures ∙ three.answer) (drawing_of_run r₃) (state_of r₃) three.diagram three.state c.unwrap-closed.result (state_of c.close-2.new.self) (ap close_answer (sym c.unwrap-closed.ensures) ∙ last.answer) last.state in
    record { answer = sym (ap (λ o. o.answer) by); state = sym (ap (λ o. o.state) by); diagram = last.diagram ∙ three.diagram ∙ two.diagram ∙ one.diagram }
