-- A call on a run that the machine finishes by the outcome o.
use Rattle.std.proofs.Common.{◌≡◌, ℕ, Result}
use Rattle.text.specs.declared.fault.Fault.{Fault}
use Rattle.kit.specs.declared.signal.Signal.{Signal}
use Rattle.kit.specs.Meaning.{Meaning, Monotone, Bounded}
use Rattle.diagram.proofs.Legibles.{is_diagram}
use Rattle.machine.specs.declared.answers.Given.{Given}
use Rattle.machine.specs.declared.answers.Intent.{Intent}
use Rattle.machine.specs.declared.answers.Settled.{Settled}
use Rattle.machine.specs.declared.answers.Closed.{Closed}
use Rattle.machine.specs.Machine.{State, Token, Outcome, begin, supply, fire, settle, read, close}
use Rattle.machine.specs.Logs.{begins, supplies, fires, settles, reads, closes, StandsAfter, StandsWithEvery}
use Rattle.machine.proofs.After.{Done, done_begin, done_supply, done_fire, done_settle, done_read, done_close}
use Rattle.run.specs.declared.run.Run.{Run}
use Rattle.run.specs.Runs.{state_of, drawing_of_run}

module _ {V : Type 0} (r : Run V) where
  pub finish_begin : {o : Outcome V (Result Token Fault)} {a : Result Token Fault} {s' : State V} → begin (state_of r) ≡ o → a ≡ o.answer → s' ≡ o.state → Done (begin (state_of r)) a s' (StandsWithEvery (drawing_of_run r) (state_of r) (begins a) s')
  finish_begin by p q = done_begin (drawing_of_run r) (is_diagram r.diagram.now) (state_of r) by p q

  pub finish_supply : (w : ℕ) (g : Given V) {o : Outcome V (Result (Unit {0}) Fault)} {a : Result (Unit {0}) Fault} {s' : State V} → supply (drawing_of_run r) (state_of r) w g ≡ o → a ≡ o.answer → s' ≡ o.state → Done (supply (drawing_of_run r) (state_of r) w g) a s' (StandsWithEvery (drawing_of_run r) (state_of r) (supplies w g a) s')
  finish_supply w g by p q = done_supply (drawing_of_run r) (is_diagram r.diagram.now) (state_of r) w g by p q

  pub finish_read : (w : ℕ) {o : Outcome V (Result (Signal V) Fault)} {a : Result (Signal V) Fault} → read (drawing_of_run r) (state_of r) w ≡ o → a ≡ o.answer → Done (read (drawing_of_run r) (state_of r) w) a (state_of r) (StandsWithEvery (drawing_of_run r) (state_of r) (reads w a) (state_of r))
  finish_read w by p = done_read (drawing_of_run r) (is_diagram r.diagram.now) (state_of r) w by p

  pub finish_fire : (m : Meaning V) → Monotone m → Bounded m → (k : ℕ) {o : Outcome V (Result ℕ Fault)} {a : Result ℕ Fault} {s' : State V} → fire m (drawing_of_run r) (state_of r) k ≡ o → a ≡ o.answer → s' ≡ o.state → Done (fire m (drawing_of_run r) (state_of r) k) a s' (StandsAfter m (drawing_of_run r) (state_of r) (fires k a) s')
  finish_fire m up few k by p q = done_fire (drawing_of_run r) (is_diagram r.diagram.now) (state_of r) m (record { monotone = up; bounded = few }) k by p q

  pub finish_settle : (m : Meaning V) → Monotone m → Bounded m → {o : Outcome V (Result Settled Fault)} {a : Result Settled Fault} {s' : State V} → settle m (drawing_of_run r) (state_of r) ≡ o → a ≡ o.answer → s' ≡ o.state → Done (settle m (drawing_of_run r) (state_of r)) a s' (StandsAfter m (drawing_of_run r) (state_of r) (settles a) s')
  finish_settle m up few by p q = done_settle (drawing_of_run r) (is_diagram r.diagram.now) (state_of r) m (record { monotone = up; bounded = few }) by p q

  pub finish_close : (m : Meaning V) → Monotone m → Bounded m → (t : Token) (i : Intent) {o : Outcome V (Result Closed Fault)} {a : Result Closed Fault} {s' : State V} → close m (drawing_of_run r) (state_of r) t i ≡ o → a ≡ o.answer → s' ≡ o.state → Done (close m (drawing_of_run r) (state_of r) t i) a s' (StandsAfter m (drawing_of_run r) (state_of r) (closes t i a) s')
  finish_close m up few t i by p q = done_close (drawing_of_run r) (is_diagram r.diagram.now) (state_of r) m (record { monotone = up; bounded = few }) t i by p q
