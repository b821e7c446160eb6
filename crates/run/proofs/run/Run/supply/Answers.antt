use Rattle.std.proofs.Common.{◌≡◌, ℕ, ◌<◌, true, false, leb, length, set, Err, sym, refl, ap, ◌∙◌, arith, rules}
use Rattle.std.proofs.lemmas.List.{get_or_default}
use Rattle.std.proofs.lemmas.Result.{err_from_is_err_and}
use Rattle.std.proofs.lemmas.Bool.{cond-true, cond-false, le-leb, lt-leb}
use Rattle.text.specs.declared.fault.Cause.TheVariants.{NumberOutside, AlreadyKnown}
use Rattle.text.specs.Results.{fault}
use Rattle.kit.specs.declared.signal.Signal.{Signal}
use Rattle.kit.specs.declared.signal.Signal.TheVariants.{Unknown, Absent, Present}
use Rattle.machine.specs.declared.answers.Given.{Given}
use Rattle.machine.specs.declared.answers.Phase.TheVariants.{Open}
use Rattle.kit.specs.Known.{is_known}
use Rattle.machine.specs.Machine.{State, accepted, refused, signal_of, supply, supply_in, supply_known, with_wires}
use Rattle.machine.specs.Tables.{at}
use Rattle.run.specs.declared.admission.Call.TheVariants.{Supply}
use Rattle.run.specs.Runs.{state_of, drawing_of_run}
use Rattle.run.proofs.Calls.{supply_turned, supply_taken, not_void}
use Rattle.run.proofs.run.Run.supply.Given.{Over}
use Rattle.run.proofs.Finished.{finish_supply}
use Rattle.run.proofs.run.Run.supply.Goals as goal
use Rattle.run.proofs.run.Run.supply.Goals.{In_ok-admit, Else-wire-inputs}

pub returns-in_err-admit : goal.returns-in_err-admit
returns-in_err-admit g c =
    let p = err_from_is_err_and c.from_residual.result c.from_residual.ensures.1 in
    let r = c.args.self.now in
    let is = supply_turned (state_of r) (drawing_of_run r) c.args.wire c.args.given c.in_err-admit.field-0.0 (sym c.in_err-admit.ensures) in
    let done = finish_supply c.args.self.now c.args.wire c.args.given is (p.1 ∙ ap Err p.2) refl in
    record {
      answer = done.answer;
      state = done.state;
      diagram = refl;
      stands = done.stands;
    }

-- a wire below the inputs is one of the run's
within : (g : Over) (c : Else-wire-inputs g) → c.args.wire < length c.args.self.now.wires.now
within g c =
    let r = c.args.self.now in
    let long = r.wires_fit (not_void r.phase Supply tt (sym c.in_ok-admit.ensures)) in
    omega (arith, long, c.from-inputs.ensures, c.inputs.ensures, c.if-wire-inputs.false, r.diagram.now.drawn.inputs_among)

pub offset_bounds-self-wire : goal.offset_bounds-self-wire
offset_bounds-self-wire g c = let l = within g (goal.at.offset_bounds-self-wire g c).Else-wire-inputs in search rules

pub offset_bounds-self-wire-2 : goal.offset_bounds-self-wire-2
offset_bounds-self-wire-2 g c = let l = within g (goal.at.offset_bounds-self-wire-2 g c).Else-wire-inputs in search rules

taken : (g : Over) (c : In_ok-admit g) → supply (drawing_of_run c.args.self.now) (state_of c.args.self.now) c.args.wire c.args.given ≡ supply_in Open (drawing_of_run c.args.self.now) (state_of c.args.self.now) c.args.wire c.args.given
taken g c = supply_taken (state_of c.args.self.now) (drawing_of_run c.args.self.now) c.args.wire c.args.given tt (sym c.in_ok-admit.ensures)

pub returns-then-wire-inputs : goal.returns-then-wire-inputs
returns-then-wire-inputs g c =
    let r = c.args.self.now in
    let d = drawing_of_run r in
    let w = c.args.wire in
    let is = taken g (goal.at.returns-then-wire-inputs g c).In_ok-admit ∙ cond-true (leb d.inputs w) (refused (state_of r) (fault NumberOutside w d.inputs)) (supply_known (at r.wires.now w) (state_of r) w c.args.given) (le-leb d.inputs w (omega (arith, c.from-inputs.ensures, c.inputs.ensures, c.if-wire-inputs.true))) in
    let done = finish_supply c.args.self.now c.args.wire c.args.given is (ap Err c.new.ensures ∙ ap (λ n. Err (fault NumberOutside w n)) (c.from-inputs.ensures ∙ c.inputs.ensures)) refl in
    record {
      answer = done.answer;
      state = done.state;
      diagram = refl;
      stands = done.stands;
    }

-- a wire below the inputs is looked at
looked : (g : Over) (c : Else-wire-inputs g) → supply (drawing_of_run c.args.self.now) (state_of c.args.self.now) c.args.wire c.args.given ≡ supply_known (at c.args.self.now.wires.now c.args.wire) (state_of c.args.self.now) c.args.wire c.args.given
looked g c =
    let r = c.args.self.now in
    let d = drawing_of_run r in
    let w = c.args.wire in
    supply_taken (state_of r) d w c.args.given tt (sym c.in_ok-admit.ensures)
    ∙ cond-false (leb d.inputs w) (refused (state_of r) (fault NumberOutside w d.inputs)) (supply_known (at r.wires.now w) (state_of r) w c.args.given) (lt-leb d.inputs w (omega (arith, c.from-inputs.ensures, c.inputs.ensures, c.if-wire-inputs.false)))

-- an unknown wire takes what is given, a known one is refused
unknown_taken : {V : Type 0} (s : State V) (w : ℕ) (given : Given V) (was : Signal V) → is_known was ≡ false → supply_known was s w given ≡ accepted tt (with_wires s (set s.wires w (signal_of given)))
unknown_taken s w given Unknown h = refl
unknown_taken s w given Absent h = cc
unknown_taken s w given (Present v) h = cc

known_refused : {V : Type 0} (s : State V) (w : ℕ) (given : Given V) (was : Signal V) → is_known was ≡ true → supply_known was s w given ≡ refused s (fault AlreadyKnown w 0)
known_refused s w given Unknown h = cc
known_refused s w given Absent h = refl
known_refused s w given (Present v) h = refl

pub returns : goal.returns
returns g c =
    let r = c.args.self.now in
    let w = c.args.wire in
    let place = (goal.at.returns g c).Else-wire-inputs in
    let was = get_or_default r.wires.now w Unknown c.index-self-wire.result (within g place) in
    let is = looked g place ∙ unknown_taken (state_of r) w c.args.given (at r.wires.now w) (ap is_known was ∙ sym c.is_known.ensures ∙ c.if-is_known.false) in
    let done = finish_supply r w c.args.given is refl (ap (λ s. with_wires (state_of r) (set r.wires.now w s)) c.into.ensures) in
    record {
      answer = done.answer;
      state = done.state;
      diagram = refl;
      stands = done.stands;
    }

pub returns-then-is_known : goal.returns-then-is_known
returns-then-is_known g c =
    let r = c.args.self.now in
    let w = c.args.wire in
    let place = (goal.at.returns-then-is_known g c).Else-wire-inputs in
    let was = get_or_default r.wires.now w Unknown c.index-self-wire.result (within g place) in
    let is = looked g place ∙ known_refused (state_of r) w c.args.given (at r.wires.now w) (ap is_known was ∙ sym c.is_known.ensures ∙ c.if-is_known.true) in
    let done = finish_supply r w c.args.given is (ap Err c.new-then-is_known.ensures) refl in
    record {
      answer = done.answer;
      state = done.state;
      diagram = refl;
      stands = done.stands;
    }
