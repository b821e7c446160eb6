-- Two runs with open ticks, each offered the other's token.
use Rattle.std.proofs.Common.{◌≡◌, ℕ, Bool, true, false, cond, ◌&&◌, eqb, is_ok, is_err, Ok, Err, Result, sym, refl, ap, ◌∙◌, arith}
use Rattle.std.proofs.lemmas.Bool.{and_parts, eqb-true}
use Rattle.text.specs.declared.fault.Cause.TheVariants.{WrongToken}
use Rattle.text.specs.declared.fault.Fault.{Fault}
use Rattle.text.specs.Results.{fault}
use Rattle.kit.specs.Meaning.{Meaning}
use Rattle.draft.specs.Drawings.{Drawing}
use Rattle.machine.specs.declared.answers.Closed.{Closed}
use Rattle.machine.specs.declared.answers.Intent.{Intent}
use Rattle.machine.specs.Machine.{State, Token, refused, close, close_in, closed_by}
use Rattle.machine.proofs.Refusing.{refused_change_nothing}
use Rattle.machine.proofs.Ticks.{Own, close_taken}

module _ {V : Type 0} where
  -- of the same state and the same token
  pub own_again : {s s' : State V} {t t' : Token} → s' ≡ s → t' ≡ t → Own s t → Own s' t'
  own_again is it own = record { opened = ap (λ x. x.phase) is ∙ own.opened; name = ap (λ x. x.name) it ∙ own.name ∙ sym (ap (λ x. x.name) is); count = ap (λ x. x.count) it ∙ own.count ∙ sym (ap (λ x. x.count) is) }

  -- if the second's own token can be the first's token, then the first's own can be the second's
  pub exchanged : {s s' : State V} {a b : Token} → Own s a → Own s' b → Own s' a → Own s b
  exchanged own other taken = record { opened = own.opened; name = other.name ∙ sym taken.name ∙ own.name; count = other.count ∙ sym taken.count ∙ own.count }

  module _ (m : Meaning V) (d : Drawing) (s : State V) (i : Intent) where
    -- a refused close leaves the run
    pub left_as_it_was : {s' : State V} (t : Token) (f : Fault) → Err f ≡ (close m d s t i).answer → s' ≡ (close m d s t i).state → s' ≡ s
    left_as_it_was t f bad left = left ∙ refused_change_nothing.of_close m d s t i f (sym bad)

    -- an open tick takes only its own token
    abbrev test : Token → Bool
    test t = eqb t.name s.name && eqb t.count s.count

    taken_if : (a t : Token) → Own s a → (v : Bool) → test t ≡ v → is_ok (cond v (closed_by i m d s) (refused s (fault WrongToken 0 0))).answer ≡ true → Own s t
    taken_if a t own true is h = let both = and_parts (eqb t.name s.name) (eqb t.count s.count) is in record { opened = own.opened; name = eqb-true t.name s.name both.0; count = eqb-true t.count s.count both.1 }
    taken_if a t own false is h = let z : ◌≡◌ {A = ℕ} 0 1 = cc in absurd (omega arith)

    pub taken_own : (a t : Token) → Own s a → is_ok (close m d s t i).answer ≡ true → Own s t
    unfolding close
    taken_own a t own h = taken_if a t own (test t) refl (ap (λ p. is_ok (close_in p m d s t i).answer) (sym own.opened) ∙ h)

  -- if the second refused the first's token, then the first refuses the second's
  module _ (m : Meaning V) (d d' : Drawing) (s s' : State V) (a b : Token) (i : Intent) (own : Own s a) (other : Own s' b) where
    turned_in : (f : Fault) → Err f ≡ (close m d' s' a i).answer → (r : Result Closed Fault) → (close m d s b i).answer ≡ r → is_err r ≡ true
    turned_in f bad (Ok c) is =
        let taken : Own s b = taken_own m d s i a b own (ap is_ok is) in
        let ok : is_ok (close m d' s' a i).answer ≡ true = close_taken d' s' m a i (exchanged {s = s'} {s' = s} {a = b} {b = a} other own taken) in
        let never : false ≡ true = ap is_ok bad ∙ ok in
        let z : ◌≡◌ {A = ℕ} 0 1 = cc in
        absurd (omega arith)
    turned_in f bad (Err e) is = refl

    pub turned_too : (f : Fault) → Err f ≡ (close m d' s' a i).answer → is_err (close m d s b i).answer ≡ true
    turned_too f bad = turned_in f bad (close m d s b i).answer refl
