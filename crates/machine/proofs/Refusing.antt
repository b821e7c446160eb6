-- A refused call changes nothing.
use Rattle.std.proofs.Common.{ℕ, Bool, true, false, cond, leb, Result, sym, refl}
use Rattle.text.specs.declared.fault.Cause.TheVariants.{NumberOutside}
use Rattle.text.specs.declared.fault.Fault.{Fault}
use Rattle.text.specs.Results.{fault}
use Rattle.text.proofs.ResultLaws.{never_ok}
use Rattle.kit.specs.declared.signal.Signal.{Signal}
use Rattle.kit.specs.declared.signal.Signal.TheVariants.{Unknown, Absent, Present}
use Rattle.kit.specs.Meaning.{Meaning}
use Rattle.draft.specs.Drawings.{Drawing}
use Rattle.machine.specs.declared.answers.Phase.{Phase}
use Rattle.machine.specs.declared.answers.Phase.TheVariants.{Resting, Open, Void}
use Rattle.machine.specs.declared.answers.Given.{Given}
use Rattle.machine.specs.declared.answers.Intent.{Intent}
use Rattle.machine.specs.declared.answers.Intent.TheVariants.{Keep, Drop}
use Rattle.machine.specs.Tables.{at}
use Rattle.machine.specs.Machine.{State, Token, Outcome, accepted, refused, Unchanged, RefusedChangeNothing, begin, begin_in, supply, supply_known, supply_in, fire, fire_in, settle, settle_in, read, read_in, close, closed_by, close_in}

-- a refusal, an acceptance, and a choice between the two
turned : {V A : Type 0} (s : State V) (f : Fault) → Unchanged s (refused {A = A} s f)
turned s f g e = refl

taken : {V A : Type 0} (s s' : State V) (x : A) → Unchanged s (accepted x s')
taken s s' x f e = never_ok (sym e)

either : {V A : Type 0} (s : State V) (t : Bool) (o p : Outcome V (Result A Fault)) → Unchanged s o → Unchanged s p → Unchanged s (cond t o p)
either s true o p h k = h
either s false o p h k = k

begins : {V : Type 0} (s : State V) (p : Phase) → Unchanged s (begin_in p s)
begins s Resting = either s _ _ _ (turned s _) (taken s _ _)
begins s Open = turned s _
begins s (Void f) = turned s f

supplies_known : {V : Type 0} (s : State V) (was : Signal V) (w : ℕ) (g : Given V) → Unchanged s (supply_known was s w g)
supplies_known s Unknown w g = taken s _ tt
supplies_known s Absent w g = turned s _
supplies_known s (Present v) w g = turned s _

supplies : {V : Type 0} (d : Drawing) (s : State V) (w : ℕ) (g : Given V) (p : Phase) → Unchanged s (supply_in p d s w g)
supplies d s w g Resting = turned s _
supplies d s w g Open = either s (leb d.inputs w) _ _ (turned s (fault NumberOutside w d.inputs)) (supplies_known s (at s.wires w) w g)
supplies d s w g (Void f) = turned s f

fires : {V : Type 0} (m : Meaning V) (d : Drawing) (s : State V) (k : ℕ) (p : Phase) → Unchanged s (fire_in p m d s k)
fires m d s k Resting = turned s _
fires m d s k Open = either s _ _ _ (turned s _) (taken s _ _)
fires m d s k (Void f) = turned s f

settles : {V : Type 0} (m : Meaning V) (d : Drawing) (s : State V) (p : Phase) → Unchanged s (settle_in p m d s)
settles m d s Resting = turned s _
settles m d s Open = taken s _ _
settles m d s (Void f) = turned s f

reads : {V : Type 0} (d : Drawing) (s : State V) (w : ℕ) (p : Phase) → Unchanged s (read_in p d s w)
reads d s w Resting = either s _ _ _ (turned s _) (taken s _ _)
reads d s w Open = either s _ _ _ (turned s _) (taken s _ _)
reads d s w (Void f) = turned s f

closes_by : {V : Type 0} (m : Meaning V) (d : Drawing) (s : State V) (i : Intent) → Unchanged s (closed_by i m d s)
closes_by m d s Keep = either s _ _ _ (taken s _ _) (taken s _ _)
closes_by m d s Drop = taken s _ _

closes : {V : Type 0} (m : Meaning V) (d : Drawing) (s : State V) (t : Token) (i : Intent) (p : Phase) → Unchanged s (close_in p m d s t i)
closes m d s t i Resting = turned s _
closes m d s t i Open = either s _ _ _ (closes_by m d s i) (turned s _)
closes m d s t i (Void f) = turned s _

pub refused_change_nothing : {V : Type 0} → RefusedChangeNothing V
unfolding begin supply fire settle read close
refused_change_nothing =
    record {
      of_begin = λ s. begins s s.phase;
      of_supply = λ d s w g. supplies d s w g s.phase;
      of_fire = λ m d s k. fires m d s k s.phase;
      of_settle = λ m d s. settles m d s s.phase;
      of_read = λ d s w. reads d s w s.phase;
      of_close = λ m d s t i. closes m d s t i s.phase;
    }
