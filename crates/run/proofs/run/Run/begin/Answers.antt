use Rattle.std.proofs.Common.{◌≡◌, ◌+◌, leb, Err, sym, refl, ap, ◌∙◌}
use Rattle.std.proofs.lemmas.Result.{err_from_is_err_and}
use Rattle.std.proofs.lemmas.Bool.{cond-true, cond-false, le-leb, lt-leb}
use Rattle.text.specs.declared.fault.Cause.TheVariants.{NoTickLeft}
use Rattle.text.specs.Results.{fault, mapped}
use Rattle.machine.specs.declared.answers.Phase.TheVariants.{Resting, Open}
use Rattle.machine.specs.Machine.{most_ticks, refused, accepted, begun, begin, begin_in}
use Rattle.run.specs.Runs.{state_of, token_of}
use Rattle.run.proofs.Calls.{begin_turned, begin_taken}
use Rattle.run.proofs.run.Run.begin.Given.{Over}
use Rattle.run.proofs.Finished.{finish_begin}
use Rattle.run.proofs.run.Run.begin.Goals as goal
use Rattle.run.proofs.run.Run.begin.Goals.{In_ok-admit}

pub returns-in_err-admit : goal.returns-in_err-admit
returns-in_err-admit g c =
    let p = err_from_is_err_and c.from_residual.result c.from_residual.ensures.1 in
    let s = state_of c.args.self.now in
    let is = begin_turned s c.in_err-admit.field-0.0 (sym c.in_err-admit.ensures) in
    let done = finish_begin c.args.self.now is (ap (mapped token_of) (p.1 ∙ ap Err p.2)) refl in
    record {
      answer = done.answer;
      state = done.state;
      diagram = refl;
      stands = done.stands;
    }

taken : (g : Over) (c : In_ok-admit g) → begin (state_of c.args.self.now) ≡ begin_in Resting (state_of c.args.self.now)
taken g c = begin_taken (state_of c.args.self.now) tt (sym c.in_ok-admit.ensures)

pub returns-then-self-ge-MOST_TICKS : goal.returns-then-self-ge-MOST_TICKS
returns-then-self-ge-MOST_TICKS g c =
    let s = state_of c.args.self.now in
    let is = taken g (goal.at.returns-then-self-ge-MOST_TICKS g c).In_ok-admit ∙ cond-true (leb most_ticks s.count) (refused s (fault NoTickLeft 0 0)) (accepted (record { name = s.name; count = s.count + 1 }) (begun s)) (le-leb most_ticks s.count c.if-self-ge-MOST_TICKS.true) in
    let done = finish_begin c.args.self.now is (ap Err c.refusal.ensures) refl in
    record {
      answer = done.answer;
      state = done.state;
      diagram = refl;
      stands = done.stands;
    }

pub returns : goal.returns
returns g c =
    let s = state_of c.args.self.now in
    let is = taken g (goal.at.returns g c).In_ok-admit ∙ cond-false (leb most_ticks s.count) (refused s (fault NoTickLeft 0 0)) (accepted (record { name = s.name; count = s.count + 1 }) (begun s)) (lt-leb most_ticks s.count c.if-self-ge-MOST_TICKS.false) in
    let done = finish_begin c.args.self.now is refl (ap (λ ws. record { name = s.name; count = s.count + 1; phase = Open; wires = ws; cells = s.cells }) c.forget.ensures) in
    record {
      answer = done.answer;
      state = done.state;
      diagram = refl;
      stands = done.stands;
    }
