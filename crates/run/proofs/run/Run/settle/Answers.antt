use Rattle.std.proofs.Common.{Ok, Err, sym, refl, ap, ◌∙◌}
use Rattle.std.proofs.lemmas.Result.{err_from_is_err_and}
use Rattle.run.specs.Runs.{state_of, drawing_of_run}
use Rattle.run.proofs.Calls.{settle_turned, settle_taken, not_void}
use Rattle.text.specs.Results.{then}
use Rattle.machine.specs.Settling.{settled, settle_answer}
use Rattle.tables.specs.Fitting.{where_taken}
use Rattle.run.specs.declared.admission.Call.TheVariants.{Settle}
use Rattle.run.proofs.Finished.{finish_settle}
use Rattle.run.proofs.Fitting.{run_fits}
use Rattle.run.proofs.run.Run.settle.Goals as goal

pub returns-in_err-admit : goal.returns-in_err-admit
returns-in_err-admit g c =
    let p = err_from_is_err_and c.from_residual.result c.from_residual.ensures.1 in
    let r = c.args.self.now in
    let is = settle_turned (state_of r) (drawing_of_run r) (g.K.Kit.meaning c.args.kit.now) c.in_err-admit.field-0.0 (sym c.in_err-admit.ensures) in
    let done = finish_settle c.args.self.now (g.K.Kit.meaning c.args.kit.now) (g.met.K.Kit.monotone c.args.kit.now) (g.met.K.Kit.bounded c.args.kit.now) is (p.1 ∙ ap Err p.2) refl in
    record {
      answer = done.answer;
      state = done.state;
      diagram = refl;
      stands = done.stands;
    }

pub returns : goal.returns
returns g c =
    let r = c.args.self.now in
    let s = state_of r in
    let d = drawing_of_run r in
    let m = g.K.Kit.meaning c.args.kit.now in
    let made = c.settle.ensures in
    let taken = sym c.in_ok-admit.ensures in
    let fits = run_fits r (not_void r.phase Settle tt taken) in
    let is = settle_taken s d m tt taken in
    let wires = made.after ∙ ap (λ x. where_taken x (settled m d s.cells s.wires).wires s.wires) fits in
    let done = finish_settle c.args.self.now (g.K.Kit.meaning c.args.kit.now) (g.met.K.Kit.monotone c.args.kit.now) (g.met.K.Kit.bounded c.args.kit.now) is (made.answer ∙ ap (λ x. then x (λ _. Ok (settle_answer m d s.cells s.wires))) fits) (λ t. record { name = s.name; count = s.count; phase = s.phase; wires = wires t; cells = made.cells t }) in
    record {
      answer = done.answer;
      state = done.state;
      diagram = refl;
      stands = done.stands;
    }
