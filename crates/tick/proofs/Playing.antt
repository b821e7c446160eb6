-- A tick, call by call.
use Rattle.std.proofs.Common.{◌≡◌, true, List, is_ok, Ok, Err, Option, Result, sym, ap, ◌∙◌}
use Rattle.text.specs.declared.fault.Fault.{Fault}
use Rattle.text.specs.Results.{then, mapped}
use Rattle.kit.specs.Meaning.{Meaning}
use Rattle.draft.specs.Drawings.{Drawing}
use Rattle.machine.specs.declared.answers.Given.{Given}
use Rattle.machine.specs.declared.answers.Intent.{Intent}
use Rattle.machine.specs.declared.answers.Intent.TheVariants.{Drop}
use Rattle.machine.specs.declared.answers.Settled.{Settled}
use Rattle.machine.specs.declared.answers.Closed.{Closed}
use Rattle.machine.specs.Machine.{State, Token, Outcome, refused, begin, settle, close}
use Rattle.machine.proofs.Ticks.{Own, own_begin, still_own, alike_settle, settle_taken, close_taken}
use Rattle.tick.specs.Ticks.{supplied, fed, opened, played}
use Rattle.tick.proofs.Supplies.{alike_supplied}

-- after begin: s₁ is the run's state and d₁ its drawing
module _ {V : Type 0} (m : Meaning V) (d : Drawing) (s : State V) (gs : List (Option (Given V))) (i : Intent) where
  pub not_begun : (f : Fault) → Err f ≡ (begin s).answer → played m d s gs i ≡ refused (begin s).state f
  unfolding played
  not_begun f bad = ap (opened m d (begin s).state gs i) (sym bad)

  module _ (t : Token) (ok : Ok t ≡ (begin s).answer) (d₁ : Drawing) (s₁ : State V) (same : d₁ ≡ d) (left : s₁ ≡ (begin s).state) where
    abbrev after : Outcome V (Result (Unit {0}) Fault)
    after = supplied d₁ s₁ 0 gs

    goes_on : played m d s gs i ≡ fed m d t i after.state after.answer
    unfolding played
    goes_on = ap (opened m d (begin s).state gs i) (sym ok) ∙ sym (λ j. fed m d t i (supplied (same j) (left j) 0 gs).state (supplied (same j) (left j) 0 gs).answer)

    owned : (s₂ : State V) → s₂ ≡ after.state → Own s₂ t
    owned s₂ is =
        let first : Own s₁ t = still_own {s = (begin s).state} {s' = s₁} t (own_begin s t (sym ok)) (record { phase = ap (λ x. x.phase) left; name = ap (λ x. x.name) left; count = ap (λ x. x.count) left }) in
        let fed_on : Own after.state t = still_own {s = s₁} {s' = after.state} t first (alike_supplied d₁ s₁ 0 gs) in
        still_own {s = after.state} {s' = s₂} t fed_on (record { phase = ap (λ x. x.phase) is; name = ap (λ x. x.name) is; count = ap (λ x. x.count) is })

    -- after the supplies: s₂ and d₂
    module _ (d₂ : Drawing) (s₂ : State V) (same₂ : d₂ ≡ d₁) (left₂ : s₂ ≡ after.state) where
      pub drop_taken : is_ok (close m d₂ s₂ t Drop).answer ≡ true
      drop_taken = close_taken d₂ s₂ m t Drop (owned s₂ left₂)

      pub dropped : (f : Fault) (s₃ : State V) → Err f ≡ after.answer → s₃ ≡ (close m d₂ s₂ t Drop).state → played m d s gs i ≡ record { answer = Err f; state = s₃ }
      dropped f s₃ bad left₃ =
          goes_on ∙ ap (fed m d t i after.state) (sym bad)
          ∙ sym (ap (λ x. record { answer = Err f; state = x }) (left₃ ∙ (λ k. (close m ((same₂ ∙ same) k) (left₂ k) t Drop).state)))

      pub settle_runs : is_ok (settle m d₂ s₂).answer ≡ true
      settle_runs = settle_taken d₂ s₂ m t (owned s₂ left₂)

      -- after the settle: s₃ and d₃
      module _ (u : Unit {0}) (fine : Ok u ≡ after.answer) (n : Settled) (told : Ok n ≡ (settle m d₂ s₂).answer) (d₃ : Drawing) (s₃ : State V) (same₃ : d₃ ≡ d₂) (left₃ : s₃ ≡ (settle m d₂ s₂).state) where
        pub close_runs : is_ok (close m d₃ s₃ t i).answer ≡ true
        close_runs =
            let own : Own (settle m d₂ s₂).state t = still_own {s = s₂} {s' = (settle m d₂ s₂).state} t (owned s₂ left₂) (alike_settle d₂ s₂ m) in
            close_taken d₃ s₃ m t i (still_own {s = (settle m d₂ s₂).state} {s' = s₃} t own (record { phase = ap (λ x. x.phase) left₃; name = ap (λ x. x.name) left₃; count = ap (λ x. x.count) left₃ }))

        pub whole : (c : Closed) (s₄ : State V) → Ok c ≡ (close m d₃ s₃ t i).answer → s₄ ≡ (close m d₃ s₃ t i).state → played m d s gs i ≡ record { answer = Ok (record { settled = n; closed = c }); state = s₄ }
        whole c s₄ closed left₄ =
            let d_is : d₂ ≡ d = same₂ ∙ same in
            let s_is : s₃ ≡ (settle m d after.state).state = left₃ ∙ (λ k. (settle m (d_is k) (left₂ k)).state) in
            let told_is : Ok n ≡ (settle m d after.state).answer = told ∙ (λ k. (settle m (d_is k) (left₂ k)).answer) in
            let closed_is : Ok c ≡ (close m d (settle m d after.state).state t i).answer = closed ∙ (λ k. (close m ((same₃ ∙ d_is) k) (s_is k) t i).answer) in
            let left_is : s₄ ≡ (close m d (settle m d after.state).state t i).state = left₄ ∙ (λ k. (close m ((same₃ ∙ d_is) k) (s_is k) t i).state) in
            goes_on ∙ ap (fed m d t i after.state) (sym fine)
            ∙ sym (λ j. record { answer = then (told_is j) (λ x. mapped (λ y. record { settled = x; closed = y }) (closed_is j)); state = left_is j })
