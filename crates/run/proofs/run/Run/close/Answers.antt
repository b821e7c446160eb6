use Rattle.std.proofs.Common.{is_ok, Ok, Err, sym, refl, ap, ◌∙◌}
use Rattle.std.proofs.lemmas.Bool.{not-true, not-false}
use Rattle.machine.specs.declared.answers.Phase.TheVariants.{Resting}
use Rattle.machine.specs.Machine.{closed_by}
use Rattle.run.specs.Runs.{state_of, token_of, drawing_of_run}
use Rattle.run.proofs.Calls.{close_turned, close_other, close_own, not_void}
use Rattle.run.proofs.Closings.{closed_keep}
use Rattle.text.specs.Results.{then}
use Rattle.tables.specs.Closings.{kept_answer, kept_cells}
use Rattle.tables.specs.Fitting.{where_taken}
use Rattle.run.specs.declared.admission.Call.TheVariants.{Close}
use Rattle.run.proofs.Finished.{finish_close}
use Rattle.run.proofs.Fitting.{run_fits}
use Rattle.run.proofs.run.Run.close.Goals as goal

pub returns-in-Err : goal.returns-in-Err
returns-in-Err g c =
    let r = c.args.self.now in
    let is = close_turned (state_of r) (drawing_of_run r) (g.K.Kit.meaning c.args.kit.now) (token_of c.args.token) c.args.intent c.in-Err.fault (sym c.admit.ensures ∙ c.in-Err.is) in
    let done = finish_close c.args.self.now (g.K.Kit.meaning c.args.kit.now) (g.met.K.Kit.monotone c.args.kit.now) (g.met.K.Kit.bounded c.args.kit.now) (token_of c.args.token) c.args.intent is refl refl in
    record {
      answer = done.answer;
      handed = refl;
      state = done.state;
      diagram = refl;
      stands = done.stands;
    }

pub returns-then-ne : goal.returns-then-ne
returns-then-ne g c =
    let r = c.args.self.now in
    let is = close_other (state_of r) (drawing_of_run r) (g.K.Kit.meaning c.args.kit.now) (token_of c.args.token) c.args.intent tt (sym c.in_default.ensures) (not-true _ (sym c.ne.ensures ∙ c.if-ne.true)) in
    let done = finish_close c.args.self.now (g.K.Kit.meaning c.args.kit.now) (g.met.K.Kit.monotone c.args.kit.now) (g.met.K.Kit.bounded c.args.kit.now) (token_of c.args.token) c.args.intent is (ap Err c.refusal.ensures) refl in
    record {
      answer = done.answer;
      handed = refl;
      state = done.state;
      diagram = refl;
      stands = done.stands;
    }

pub unwrap-requires : goal.unwrap-requires
unwrap-requires g c =
    let r = c.args.self.now in
    let fits = run_fits r (not_void r.phase Close tt (sym c.in_default.ensures)) in
    ap is_ok (c.keep.ensures.answer ∙ ap (λ x. then x (λ _. Ok (kept_answer r.wires.now))) fits)

pub returns-in-Keep : goal.returns-in-Keep
returns-in-Keep g c =
    let r = c.args.self.now in
    let s = state_of r in
    let d = drawing_of_run r in
    let m = g.K.Kit.meaning c.args.kit.now in
    let made = c.keep.ensures in
    let fits = run_fits r (not_void r.phase Close tt (sym c.in_default.ensures)) in
    let told = sym c.unwrap.ensures ∙ made.answer ∙ ap (λ x. then x (λ _. Ok (kept_answer s.wires))) fits in
    let after = made.after ∙ ap (λ x. where_taken x (kept_cells m d s.wires s.cells) s.cells) fits in
    let is =
    close_own s d m (token_of c.args.token) c.args.intent tt (sym c.in_default.ensures) (not-false _ (sym c.ne.ensures ∙ c.if-ne.false))
    ∙ ap (λ i. closed_by i m d s) c.in-Keep.is
    ∙ closed_keep m d s in
    let done = finish_close c.args.self.now (g.K.Kit.meaning c.args.kit.now) (g.met.K.Kit.monotone c.args.kit.now) (g.met.K.Kit.bounded c.args.kit.now) (token_of c.args.token) c.args.intent is told (λ t. record { name = s.name; count = s.count; phase = Resting; wires = made.wires t; cells = after t }) in
    record {
      answer = done.answer;
      handed = tt;
      state = done.state;
      diagram = refl;
      stands = done.stands;
    }

pub returns-in-Drop : goal.returns-in-Drop
returns-in-Drop g c =
    let r = c.args.self.now in
    let s = state_of r in
    let d = drawing_of_run r in
    let m = g.K.Kit.meaning c.args.kit.now in
    let is =
    close_own s d m (token_of c.args.token) c.args.intent tt (sym c.in_default.ensures) (not-false _ (sym c.ne.ensures ∙ c.if-ne.false))
    ∙ ap (λ i. closed_by i m d s) c.in-Drop.is in
    let done = finish_close c.args.self.now (g.K.Kit.meaning c.args.kit.now) (g.met.K.Kit.monotone c.args.kit.now) (g.met.K.Kit.bounded c.args.kit.now) (token_of c.args.token) c.args.intent is refl refl in
    record {
      answer = done.answer;
      handed = tt;
      state = done.state;
      diagram = refl;
      stands = done.stands;
    }
