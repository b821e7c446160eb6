-- Each call of the machine carries every log on.
use Rattle.std.proofs.Common.{◌≡◌, ℕ, Bool, true, false, cond, leb, List, ◌∷◌, Result, sym, refl, ap, ◌∙◌, subst₂}
use Rattle.text.specs.declared.fault.Fault.{Fault}
use Rattle.text.specs.declared.fault.Cause.TheVariants.{NumberOutside}
use Rattle.text.specs.Results.{fault}
use Rattle.kit.specs.declared.signal.Signal.{Signal}
use Rattle.kit.specs.Meaning.{Meaning, Lawful}
use Rattle.draft.specs.Drawings.{Drawing}
use Rattle.diagram.specs.Reading.{IsDiagram}
use Rattle.machine.specs.declared.answers.Phase.{Phase}
use Rattle.machine.specs.declared.answers.Phase.TheVariants.{Resting, Open, Void}
use Rattle.machine.specs.declared.answers.Given.{Given}
use Rattle.machine.specs.declared.answers.Intent.{Intent}
use Rattle.machine.specs.declared.answers.Settled.{Settled}
use Rattle.machine.specs.declared.answers.Closed.{Closed}
use Rattle.machine.specs.Machine.{State, Token, Outcome, refused, accepted, new_state, begin, supply, fire, settle, read, read_in, close}
use Rattle.machine.specs.Logs.{Entry, begins, supplies, fires, settles, reads, closes, Led, begin_next, supply_next, fire_next, settle_next, read_next, close_next, StandsAfter, StandsWithEvery}
use Rattle.machine.specs.Tables.{at}
use Rattle.machine.proofs.Standing.{every_log_stands}

-- a call answered a and left s, as the machine does by this outcome, and S stands of it
pub record Done {V A : Type 0} (by : Outcome V A) (a : A) (s : State V) (S : Type 0) : Type 0 where
  pub answer : a ≡ by.answer
  pub state : s ≡ by.state
  pub stands : S

module _ {V : Type 0} (d : Drawing) (is : IsDiagram d) (s : State V) where
  after : (m : Meaning V) → Lawful m → (e : Entry V) (s' : State V) → ((new : State V) (log : List (Entry V)) → Led m d new log s → Led m d new (e ∷ log) s') → StandsAfter m d s e s'
  unfolding StandsAfter
  after m law e s' next name wires cells fits log led = let led' = next (new_state m d name wires cells) log led in (led', every_log_stands m law d is name wires cells fits (e ∷ log) s' led')

  -- where the call's outcome is o, so are its answer and the state after it
  pub done_begin : {o : Outcome V (Result Token Fault)} {a : Result Token Fault} {s' : State V} → begin s ≡ o → a ≡ o.answer → s' ≡ o.state → Done (begin s) a s' (StandsWithEvery d s (begins a) s')
  done_begin {o} {a} {s'} by p q =
      let told : a ≡ (begin s).answer = p ∙ sym (ap (λ x. x.answer) by) in
      let left : s' ≡ (begin s).state = q ∙ sym (ap (λ x. x.state) by) in
      record {
        answer = told;
        state = left;
        stands = λ m law. after m law (begins a) s' (λ new log led. subst₂ (λ b t. Led m d new (begins b ∷ log) t) (sym told) (sym left) (begin_next led));
      }

  pub done_supply : (w : ℕ) (g : Given V) {o : Outcome V (Result (Unit {0}) Fault)} {a : Result (Unit {0}) Fault} {s' : State V} → supply d s w g ≡ o → a ≡ o.answer → s' ≡ o.state → Done (supply d s w g) a s' (StandsWithEvery d s (supplies w g a) s')
  done_supply w g {o} {a} {s'} by p q =
      let told : a ≡ (supply d s w g).answer = p ∙ sym (ap (λ x. x.answer) by) in
      let left : s' ≡ (supply d s w g).state = q ∙ sym (ap (λ x. x.state) by) in
      record {
        answer = told;
        state = left;
        stands = λ m law. after m law (supplies w g a) s' (λ new log led. subst₂ (λ b t. Led m d new (supplies w g b ∷ log) t) (sym told) (sym left) (supply_next led w g));
      }

  -- a read leaves everything as it was
  either_way : {A : Type 0} (b : Bool) (x y : Outcome V A) → x.state ≡ s → y.state ≡ s → (cond b x y).state ≡ s
  either_way true x y p q = p
  either_way false x y p q = q

  read_leaves : (w : ℕ) (p : Phase) → (read_in p d s w).state ≡ s
  read_leaves w Resting = either_way (leb d.wires w) (refused s (fault NumberOutside w d.wires)) (accepted (at s.wires w) s) refl refl
  read_leaves w Open = either_way (leb d.wires w) (refused s (fault NumberOutside w d.wires)) (accepted (at s.wires w) s) refl refl
  read_leaves w (Void f) = refl

  leaves : (w : ℕ) → (read d s w).state ≡ s
  unfolding read
  leaves w = read_leaves w s.phase

  pub done_read : (w : ℕ) {o : Outcome V (Result (Signal V) Fault)} {a : Result (Signal V) Fault} → read d s w ≡ o → a ≡ o.answer → Done (read d s w) a s (StandsWithEvery d s (reads w a) s)
  done_read w {o} {a} by p =
      let told : a ≡ (read d s w).answer = p ∙ sym (ap (λ x. x.answer) by) in
      let left : s ≡ (read d s w).state = sym (leaves w) in
      record {
        answer = told;
        state = left;
        stands = λ m law. after m law (reads w a) s (λ new log led. subst₂ (λ b t. Led m d new (reads w b ∷ log) t) (sym told) (sym left) (read_next led w));
      }

  module _ (m : Meaning V) (law : Lawful m) where
    pub done_fire : (k : ℕ) {o : Outcome V (Result ℕ Fault)} {a : Result ℕ Fault} {s' : State V} → fire m d s k ≡ o → a ≡ o.answer → s' ≡ o.state → Done (fire m d s k) a s' (StandsAfter m d s (fires k a) s')
    done_fire k {o} {a} {s'} by p q =
        let told : a ≡ (fire m d s k).answer = p ∙ sym (ap (λ x. x.answer) by) in
        let left : s' ≡ (fire m d s k).state = q ∙ sym (ap (λ x. x.state) by) in
        record {
          answer = told;
          state = left;
          stands = after m law (fires k a) s' (λ new log led. subst₂ (λ b x. Led m d new (fires k b ∷ log) x) (sym told) (sym left) (fire_next led k));
        }

    pub done_settle : {o : Outcome V (Result Settled Fault)} {a : Result Settled Fault} {s' : State V} → settle m d s ≡ o → a ≡ o.answer → s' ≡ o.state → Done (settle m d s) a s' (StandsAfter m d s (settles a) s')
    done_settle {o} {a} {s'} by p q =
        let told : a ≡ (settle m d s).answer = p ∙ sym (ap (λ x. x.answer) by) in
        let left : s' ≡ (settle m d s).state = q ∙ sym (ap (λ x. x.state) by) in
        record {
          answer = told;
          state = left;
          stands = after m law (settles a) s' (λ new log led. subst₂ (λ b x. Led m d new (settles b ∷ log) x) (sym told) (sym left) (settle_next led));
        }

    pub done_close : (t : Token) (i : Intent) {o : Outcome V (Result Closed Fault)} {a : Result Closed Fault} {s' : State V} → close m d s t i ≡ o → a ≡ o.answer → s' ≡ o.state → Done (close m d s t i) a s' (StandsAfter m d s (closes t i a) s')
    done_close t i {o} {a} {s'} by p q =
        let told : a ≡ (close m d s t i).answer = p ∙ sym (ap (λ x. x.answer) by) in
        let left : s' ≡ (close m d s t i).state = q ∙ sym (ap (λ x. x.state) by) in
        record {
          answer = told;
          state = left;
          stands = after m law (closes t i a) s' (λ new log led. subst₂ (λ b x. Led m d new (closes t i b ∷ log) x) (sym told) (sym left) (close_next led t i));
        }
