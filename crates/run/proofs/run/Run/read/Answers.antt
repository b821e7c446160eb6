use Rattle.std.proofs.Common.{◌≡◌, leb, length, Ok, Err, sym, ap, ◌∙◌, arith}
use Rattle.std.proofs.lemmas.Result.{err_from_is_err_and}
use Rattle.std.proofs.lemmas.Bool.{cond-true, cond-false, le-leb, lt-leb}
use Rattle.text.specs.declared.fault.Cause.TheVariants.{NumberOutside}
use Rattle.text.specs.Results.{fault}
use Rattle.kit.specs.declared.signal.Signal.TheVariants.{Unknown}
use Rattle.machine.specs.declared.answers.Phase.TheVariants.{Open}
use Rattle.machine.specs.Machine.{refused, accepted, read, read_in}
use Rattle.machine.specs.Tables.{at}
use Rattle.run.specs.declared.admission.Call.TheVariants.{Read}
use Rattle.run.proofs.Calls.{read_turned, read_taken, not_void}
use Rattle.run.specs.Runs.{state_of, drawing_of_run}
use Rattle.run.proofs.run.Run.read.Given.{Over}
use Rattle.run.proofs.Finished.{finish_read}
use Rattle.run.proofs.run.Run.read.Goals as goal
use Rattle.run.proofs.run.Run.read.Goals.{In_ok-admit}

pub returns-in_err-admit : goal.returns-in_err-admit
returns-in_err-admit g c =
    let p = err_from_is_err_and c.from_residual.result c.from_residual.ensures.1 in
    let r = c.args.self.now in
    let done = finish_read r c.args.wire (read_turned (state_of r) (drawing_of_run r) c.args.wire c.in_err-admit.field-0.0 (sym c.in_err-admit.ensures)) (p.1 ∙ ap Err p.2) in
    record { answer = done.answer; stands = done.stands }

-- an admitted read
taken : (g : Over) (c : In_ok-admit g) → read (drawing_of_run c.args.self.now) (state_of c.args.self.now) c.args.wire ≡ read_in Open (drawing_of_run c.args.self.now) (state_of c.args.self.now) c.args.wire
taken g c = read_taken (state_of c.args.self.now) (drawing_of_run c.args.self.now) c.args.wire tt (sym c.in_ok-admit.ensures)

fits : (g : Over) (c : In_ok-admit g) → length c.args.self.now.wires.now ≡ (drawing_of_run c.args.self.now).wires
fits g c = c.args.self.now.wires_fit (not_void c.args.self.now.phase Read tt (sym c.in_ok-admit.ensures))

pub returns-in-None : goal.returns-in-None
returns-in-None g c =
    let at_place = (goal.at.returns-in-None g c).In_ok-admit in
    let r = c.args.self.now in
    let d = drawing_of_run r in
    let w = c.args.wire in
    let long = fits g at_place in
    let by = taken g at_place ∙ cond-true (leb d.wires w) (refused (state_of r) (fault NumberOutside w d.wires)) (accepted (at r.wires.now w) (state_of r)) (le-leb d.wires w (omega (arith, long, c.in-None.ensures.lookup.3))) in
    let done = finish_read r w by (ap Err c.new.ensures ∙ ap (λ n. Err (fault NumberOutside w n)) long) in
    record { answer = done.answer; stands = done.stands }

pub returns-in-Some : goal.returns-in-Some
returns-in-Some g c =
    let at_place = (goal.at.returns-in-Some g c).In_ok-admit in
    let r = c.args.self.now in
    let d = drawing_of_run r in
    let w = c.args.wire in
    let long = fits g at_place in
    let found = c.in-Some.ensures.lookup.3 in
    let by = taken g at_place ∙ cond-false (leb d.wires w) (refused (state_of r) (fault NumberOutside w d.wires)) (accepted (at r.wires.now w) (state_of r)) (lt-leb d.wires w (omega (arith, long, found.0))) in
    let done = finish_read r w by (ap Ok (found.1 Unknown)) in
    record { answer = done.answer; stands = done.stands }
