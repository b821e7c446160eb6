use Rattle.std.proofs.Common.{◌≡◌, ◌-◌, cond, leb, length, Ok, Err, sym, refl, ap, ◌∙◌}
use Rattle.std.proofs.lemmas.Result.{err_from_is_err_and}
use Rattle.text.specs.declared.fault.Cause.TheVariants.{NumberOutside}
use Rattle.text.specs.Results.{fault, then}
use Rattle.machine.specs.Firing.{after_fire}
use Rattle.machine.specs.Tables.{block_at, cell_at, known}
use Rattle.run.specs.declared.admission.Call.TheVariants.{Fire}
use Rattle.run.specs.Runs.{state_of, drawing_of_run}
use Rattle.run.proofs.Calls.{fire_turned, fire_taken, not_void}
use Rattle.tables.specs.Fitting.{fitting_at, where_taken}
use Rattle.run.proofs.Finished.{finish_fire}
use Rattle.run.proofs.Fitting.{run_fits, fire_apart}
use Rattle.run.proofs.run.Run.fire.Goals as goal

pub returns-in_err-admit : goal.returns-in_err-admit
returns-in_err-admit g c =
    let p = err_from_is_err_and c.from_residual.result c.from_residual.ensures.1 in
    let r = c.args.self.now in
    let is = fire_turned (state_of r) (drawing_of_run r) (g.K.Kit.meaning c.args.kit.now) c.args.block c.in_err-admit.field-0.0 (sym c.in_err-admit.ensures) in
    let done = finish_fire c.args.self.now (g.K.Kit.meaning c.args.kit.now) (g.met.K.Kit.monotone c.args.kit.now) (g.met.K.Kit.bounded c.args.kit.now) c.args.block is (p.1 ∙ ap Err p.2) refl in
    record {
      answer = done.answer;
      state = done.state;
      diagram = refl;
      stands = done.stands;
    }

pub returns : goal.returns
returns g c =
    let r = c.args.self.now in
    let s = state_of r in
    let d = drawing_of_run r in
    let k = c.args.block in
    let m = g.K.Kit.meaning c.args.kit.now in
    let after = after_fire m s.wires (block_at d k) (cell_at s.cells k) in
    let past = leb (length d.blocks) k in
    let outside = fault NumberOutside k (length d.blocks) in
    let taken = sym c.in_ok-admit.ensures in
    let at : fitting_at d s.wires s.cells k ≡ cond past (Err outside) (Ok tt) = ap (λ x. then x (λ _. cond past (Err outside) (Ok tt))) (run_fits r (not_void r.phase Fire tt taken)) in
    let made = c.fire.ensures in
    let is = fire_taken s d m k tt taken ∙ fire_apart s past outside (known after - known s.wires) after in
    let wires = made.after ∙ ap (λ x. where_taken x after s.wires) at in
    let done = finish_fire c.args.self.now (g.K.Kit.meaning c.args.kit.now) (g.met.K.Kit.monotone c.args.kit.now) (g.met.K.Kit.bounded c.args.kit.now) c.args.block is (made.answer ∙ ap (λ x. then x (λ _. Ok (known after - known s.wires))) at) (λ t. record { name = s.name; count = s.count; phase = s.phase; wires = wires t; cells = made.cells t }) in
    record {
      answer = done.answer;
      state = done.state;
      diagram = refl;
      stands = done.stands;
    }
