use Rattle.std.proofs.Common.{◌≡◌, ◌+◌, get_or, drop, Some, None, Err, sym, refl, ap, ◌∙◌}
use Rattle.std.proofs.lemmas.List.{get_or_read}
use Rattle.std.proofs.lemmas.Result.{err_from_is_err_and}
use Rattle.machine.specs.Machine.{supply}
use Rattle.run.specs.Runs.{state_of, drawing_of_run}
use Rattle.tick.specs.Ticks.{supplied}
use Rattle.tick.proofs.Supplies.{all_supplied, none_next, taken_next, refused_next}
use Rattle.tick.proofs.tick.supply_all.Goals as goal
use Rattle.tick.proofs.tick.supply_all.Goals.{in-Some+in_ok-supply, in_default}

pub loop-wire-init : goal.loop-wire-init
loop-wire-init g c = (refl, refl)

pub returns-in_err-supply : goal.returns-in_err-supply
returns-in_err-supply g c =
    let p = err_from_is_err_and c.from_residual.result c.from_residual.ensures.1 in
    let d = drawing_of_run c.args.run.now in
    let s = state_of c.loop-wire.run in
    let w = c.loop-wire.wire in
    let gs = c.args.inputs.now in
    let x = c.in-Some.given in
    let done = c.in_err-supply.ensures in
    let same = c.loop-wire.invariant.1 in
    let here : get_or gs w None ≡ Some x = sym (get_or_read gs w c.index-inputs-wire.result c.loop-wire-test.true c.index-inputs-wire.is None) ∙ c.in-Some.is in
    let by = refused_next d s w gs x c.in_err-supply.field-0.0 c.loop-wire-test.true here (ap (λ e. (supply e s w x).answer) (sym same) ∙ sym done.answer) in
    record {
      answer = p.1 ∙ ap Err p.2 ∙ ap (λ o. o.answer) (sym by ∙ c.loop-wire.invariant.0);
      state = done.state ∙ ap (λ e. (supply e s w x).state) same ∙ ap (λ o. o.state) (sym by ∙ c.loop-wire.invariant.0);
      diagram = done.diagram ∙ same;
    }

pub loop-wire-preserved : goal.loop-wire-preserved
loop-wire-preserved g c =
    let d = drawing_of_run c.args.run.now in
    let s = state_of c.loop-wire.run in
    let w = c.loop-wire.wire in
    let gs = c.args.inputs.now in
    let same = c.loop-wire.invariant.1 in
    let read : get_or gs w None ≡ c.index-inputs-wire.result = sym (get_or_read gs w c.index-inputs-wire.result c.loop-wire-test.true c.index-inputs-wire.is None) in
    elim c.match-input.branch [
      | in-Some+in_ok-supply x ↦
          let v = x.in-Some.given in
          let done = x.in_ok-supply.ensures in
          let left : state_of c.match-input.run ≡ (supply d s w v).state = ap state_of x.run-is ∙ done.state ∙ ap (λ e. (supply e s w v).state) same in
          let by = taken_next d s w gs v tt c.loop-wire-test.true (read ∙ x.in-Some.is) (ap (λ e. (supply e s w v).answer) (sym same) ∙ sym done.answer) in
          (ap (λ z. supplied d z (w + 1) (drop (w + 1) gs)) left ∙ sym by ∙ c.loop-wire.invariant.0, ap drawing_of_run x.run-is ∙ done.diagram ∙ same)
      | in_default x ↦
          let by = none_next d s w gs c.loop-wire-test.true (read ∙ x.in_default.is) in
          (ap (λ r. supplied d (state_of r) (w + 1) (drop (w + 1) gs)) x.run-is ∙ sym by ∙ c.loop-wire.invariant.0, ap drawing_of_run x.run-is ∙ same)
    ]

pub returns : goal.returns
returns g c =
    let by = sym (all_supplied (drawing_of_run c.args.run.now) (state_of c.loop-wire.run) c.loop-wire.wire c.args.inputs.now c.loop-wire-test.false) ∙ c.loop-wire.invariant.0 in
    record { answer = ap (λ o. o.answer) by; state = ap (λ o. o.state) by; diagram = c.loop-wire.invariant.1 }
