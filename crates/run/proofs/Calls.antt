-- The machine's calls by what the phase takes.
use Rattle.std.proofs.Common.{◌≡◌, ℕ, true, false, ◌&&◌, eqb, Ok, Err, sym, refl, ap, ◌∙◌}
use Rattle.std.proofs.lemmas.Bool.{cond-true, cond-false}
use Rattle.text.specs.declared.fault.Cause.TheVariants.{WrongToken}
use Rattle.text.specs.declared.fault.Fault.{Fault}
use Rattle.text.specs.Results.{fault}
use Rattle.text.proofs.ResultLaws.{never_ok, same_err}
use Rattle.kit.specs.Meaning.{Meaning}
use Rattle.draft.specs.Drawings.{Drawing}
use Rattle.machine.specs.declared.answers.Phase.{Phase}
use Rattle.machine.specs.declared.answers.Phase.TheVariants.{Resting, Open, Void}
use Rattle.machine.specs.declared.answers.Given.{Given}
use Rattle.machine.specs.declared.answers.Intent.{Intent}
use Rattle.machine.specs.Machine.{State, Token, refused, begin, begin_in, supply, supply_in, fire, fire_in, settle, settle_in, read, read_in, close, close_in, closed_by}
use Rattle.run.specs.declared.admission.Call.{Call}
use Rattle.run.specs.declared.admission.Call.TheVariants.{Begin, Supply, Fire, Settle, Read, Close}
use Rattle.run.specs.Phases.{is_void, admitted}

-- an admitted call finds a run that is not void
pub not_void : (p : Phase) (c : Call) (u : Unit {0}) → admitted p c ≡ Ok u → is_void p ≡ false
not_void Resting c u h = refl
not_void Open c u h = refl
not_void (Void f) Begin u h = never_ok h
not_void (Void f) Supply u h = never_ok h
not_void (Void f) Fire u h = never_ok h
not_void (Void f) Settle u h = never_ok h
not_void (Void f) Read u h = never_ok h
not_void (Void f) Close u h = never_ok h

-- these calls want an open tick
pub supply_open : (p : Phase) (u : Unit {0}) → admitted p Supply ≡ Ok u → p ≡ Open
supply_open Resting u h = never_ok h
supply_open Open u h = refl
supply_open (Void f) u h = never_ok h

pub fire_open : (p : Phase) (u : Unit {0}) → admitted p Fire ≡ Ok u → p ≡ Open
fire_open Resting u h = never_ok h
fire_open Open u h = refl
fire_open (Void f) u h = never_ok h

pub settle_open : (p : Phase) (u : Unit {0}) → admitted p Settle ≡ Ok u → p ≡ Open
settle_open Resting u h = never_ok h
settle_open Open u h = refl
settle_open (Void f) u h = never_ok h

pub close_open : (p : Phase) (u : Unit {0}) → admitted p Close ≡ Ok u → p ≡ Open
close_open Resting u h = never_ok h
close_open Open u h = refl
close_open (Void f) u h = never_ok h

pub begin_resting : (p : Phase) (u : Unit {0}) → admitted p Begin ≡ Ok u → p ≡ Resting
begin_resting Resting u h = refl
begin_resting Open u h = never_ok h
begin_resting (Void f) u h = never_ok h

module _ {V : Type 0} (s : State V) where
  turned_begin : (p : Phase) (f : Fault) → admitted p Begin ≡ Err f → begin_in p s ≡ refused s f
  turned_begin Resting f h = never_ok (sym h)
  turned_begin Open f h = ap (refused s) (same_err h)
  turned_begin (Void g) f h = ap (refused s) (same_err h)

  pub begin_turned : (f : Fault) → admitted s.phase Begin ≡ Err f → begin s ≡ refused s f
  unfolding begin
  begin_turned f h = turned_begin s.phase f h

  pub begin_taken : (u : Unit {0}) → admitted s.phase Begin ≡ Ok u → begin s ≡ begin_in Resting s
  unfolding begin
  begin_taken u h = ap (λ p. begin_in p s) (begin_resting s.phase u h)

  module _ (d : Drawing) where
    turned_read : (w : ℕ) (p : Phase) (f : Fault) → admitted p Read ≡ Err f → read_in p d s w ≡ refused s f
    turned_read w Resting f h = never_ok (sym h)
    turned_read w Open f h = never_ok (sym h)
    turned_read w (Void g) f h = ap (refused s) (same_err h)

    taken_read : (w : ℕ) (p : Phase) (u : Unit {0}) → admitted p Read ≡ Ok u → read_in p d s w ≡ read_in Open d s w
    taken_read w Resting u h = refl
    taken_read w Open u h = refl
    taken_read w (Void g) u h = never_ok h

    pub read_turned : (w : ℕ) (f : Fault) → admitted s.phase Read ≡ Err f → read d s w ≡ refused s f
    unfolding read
    read_turned w f h = turned_read w s.phase f h

    pub read_taken : (w : ℕ) (u : Unit {0}) → admitted s.phase Read ≡ Ok u → read d s w ≡ read_in Open d s w
    unfolding read
    read_taken w u h = taken_read w s.phase u h

    turned_supply : (w : ℕ) (g : Given V) (p : Phase) (f : Fault) → admitted p Supply ≡ Err f → supply_in p d s w g ≡ refused s f
    turned_supply w g Resting f h = ap (refused s) (same_err h)
    turned_supply w g Open f h = never_ok (sym h)
    turned_supply w g (Void x) f h = ap (refused s) (same_err h)

    pub supply_turned : (w : ℕ) (g : Given V) (f : Fault) → admitted s.phase Supply ≡ Err f → supply d s w g ≡ refused s f
    unfolding supply
    supply_turned w g f h = turned_supply w g s.phase f h

    pub supply_taken : (w : ℕ) (g : Given V) (u : Unit {0}) → admitted s.phase Supply ≡ Ok u → supply d s w g ≡ supply_in Open d s w g
    unfolding supply
    supply_taken w g u h = ap (λ p. supply_in p d s w g) (supply_open s.phase u h)

    module _ (m : Meaning V) where
      turned_fire : (k : ℕ) (p : Phase) (f : Fault) → admitted p Fire ≡ Err f → fire_in p m d s k ≡ refused s f
      turned_fire k Resting f h = ap (refused s) (same_err h)
      turned_fire k Open f h = never_ok (sym h)
      turned_fire k (Void x) f h = ap (refused s) (same_err h)

      pub fire_turned : (k : ℕ) (f : Fault) → admitted s.phase Fire ≡ Err f → fire m d s k ≡ refused s f
      unfolding fire
      fire_turned k f h = turned_fire k s.phase f h

      pub fire_taken : (k : ℕ) (u : Unit {0}) → admitted s.phase Fire ≡ Ok u → fire m d s k ≡ fire_in Open m d s k
      unfolding fire
      fire_taken k u h = ap (λ p. fire_in p m d s k) (fire_open s.phase u h)

      turned_settle : (p : Phase) (f : Fault) → admitted p Settle ≡ Err f → settle_in p m d s ≡ refused s f
      turned_settle Resting f h = ap (refused s) (same_err h)
      turned_settle Open f h = never_ok (sym h)
      turned_settle (Void x) f h = ap (refused s) (same_err h)

      pub settle_turned : (f : Fault) → admitted s.phase Settle ≡ Err f → settle m d s ≡ refused s f
      unfolding settle
      settle_turned f h = turned_settle s.phase f h

      pub settle_taken : (u : Unit {0}) → admitted s.phase Settle ≡ Ok u → settle m d s ≡ settle_in Open m d s
      unfolding settle
      settle_taken u h = ap (λ p. settle_in p m d s) (settle_open s.phase u h)

      turned_close : (t : Token) (i : Intent) (p : Phase) (f : Fault) → admitted p Close ≡ Err f → close_in p m d s t i ≡ refused s f
      turned_close t i Resting f h = ap (refused s) (same_err h)
      turned_close t i Open f h = never_ok (sym h)
      turned_close t i (Void x) f h = ap (refused s) (same_err h)

      pub close_turned : (t : Token) (i : Intent) (f : Fault) → admitted s.phase Close ≡ Err f → close m d s t i ≡ refused s f
      unfolding close
      close_turned t i f h = turned_close t i s.phase f h

      taken_close : (t : Token) (i : Intent) (u : Unit {0}) → admitted s.phase Close ≡ Ok u → close m d s t i ≡ close_in Open m d s t i
      unfolding close
      taken_close t i u h = ap (λ p. close_in p m d s t i) (close_open s.phase u h)

      -- with the token of another tick, and with this one's
      pub close_other : (t : Token) (i : Intent) (u : Unit {0}) → admitted s.phase Close ≡ Ok u → (eqb t.name s.name && eqb t.count s.count) ≡ false → close m d s t i ≡ refused s (fault WrongToken 0 0)
      close_other t i u h e = taken_close t i u h ∙ cond-false (eqb t.name s.name && eqb t.count s.count) (closed_by i m d s) (refused s (fault WrongToken 0 0)) e

      pub close_own : (t : Token) (i : Intent) (u : Unit {0}) → admitted s.phase Close ≡ Ok u → (eqb t.name s.name && eqb t.count s.count) ≡ true → close m d s t i ≡ closed_by i m d s
      close_own t i u h e = taken_close t i u h ∙ cond-true (eqb t.name s.name && eqb t.count s.count) (closed_by i m d s) (refused s (fault WrongToken 0 0)) e
