-- What the steps of a script leave of a tick.
use Rattle.std.proofs.Common.{◌≡◌, true, is_ok, is_err, Ok, Err, Result, sym, refl, ap, ◌∙◌}
use Rattle.text.specs.declared.fault.Fault.{Fault}
use Rattle.text.specs.Results.{mapped}
use Rattle.kit.specs.Meaning.{Meaning}
use Rattle.draft.specs.Drawings.{Drawing}
use Rattle.machine.specs.declared.answers.Phase.TheVariants.{Open}
use Rattle.machine.specs.declared.answers.Closed.{Closed}
use Rattle.machine.specs.declared.answers.Intent.{Intent}
use Rattle.machine.specs.Machine.{State, Token, begin, begin_in, close}
use Rattle.machine.proofs.Ticks.{Own, Alike, own_begin, still_own, close_taken}
use Rattle.run.specs.declared.token.TickToken.{TickToken}
use Rattle.run.specs.declared.token.CloseRefused.{CloseRefused}
use Rattle.run.specs.Runs.{token_of, close_answer}

-- without the token an answer is accepted or refused still
pub ok_without_token : (r : Result Closed CloseRefused) → is_ok (close_answer r) ≡ is_ok r
ok_without_token (Ok c) = refl
ok_without_token (Err x) = refl

pub err_without_token : (r : Result Closed CloseRefused) → is_err (close_answer r) ≡ is_err r
err_without_token (Ok c) = refl
err_without_token (Err x) = refl

pub err_of_token : (r : Result TickToken Fault) → is_err (mapped token_of r) ≡ is_err r
err_of_token (Ok t) = refl
err_of_token (Err f) = refl

module _ {V : Type 0} where
  pub alike_self : (s : State V) → Alike s s
  alike_self s = record { phase = refl; name = refl; count = refl }

  -- the state that a call left is the machine's
  pub alike_left : {s s' s'' : State V} → s'' ≡ s' → Alike s s' → Alike s s''
  alike_left is a = record { phase = ap (λ x. x.phase) is ∙ a.phase; name = ap (λ x. x.name) is ∙ a.name; count = ap (λ x. x.count) is ∙ a.count }

  pub alike_on : {s s' s'' : State V} → Alike s s' → Alike s' s'' → Alike s s''
  alike_on a b = record { phase = b.phase ∙ a.phase; name = b.name ∙ a.name; count = b.count ∙ a.count }

  -- an open tick refuses a begin
  pub begin_turned : (s : State V) → s.phase ≡ Open → is_err (begin s).answer ≡ true
  unfolding begin
  begin_turned s is = ap (λ p. is_err (begin_in p s).answer) is

  pub turned_alike : (s : State V) → s.phase ≡ Open → Alike s (begin s).state
  unfolding begin
  turned_alike s is = alike_left (ap (λ p. (begin_in p s).state) is) (alike_self s)

  -- begin's token is the tick's own, over the state that begin left
  pub own_begun : (s s' : State V) (t : Token) → Ok t ≡ (begin s).answer → s' ≡ (begin s).state → Own s' t
  own_begun s s' t ok left = still_own {s = (begin s).state} {s' = s'} t (own_begin s t (sym ok)) (alike_left left (alike_self (begin s).state))

  pub close_runs : (r : Result Closed CloseRefused) (m : Meaning V) (d : Drawing) (s : State V) (t : Token) (i : Intent) → close_answer r ≡ (close m d s t i).answer → Own s t → is_ok r ≡ true
  close_runs r m d s t i is own = sym (ok_without_token r) ∙ ap is_ok is ∙ close_taken d s m t i own
