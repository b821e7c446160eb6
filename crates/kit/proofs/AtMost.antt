-- The order on signals: its laws, once for every type of value.
use Rattle.std.proofs.Common.{◌≡◌, sym, refl, ap, subst}
use Rattle.kit.specs.declared.signal.Signal.{Signal}
use Rattle.kit.specs.declared.signal.Signal.TheVariants.{Unknown, Absent, Present}
use Rattle.kit.specs.declared.signal.Inputs.{Inputs}
use Rattle.kit.specs.Order.{◌⊑◌, ◌⊑ⁱ◌}

pub at_most_refl : {V : Type 0} (s : Signal V) → s ⊑ s
at_most_refl Unknown = tt
at_most_refl Absent = refl
at_most_refl (Present v) = refl

pub at_most_equal : {V : Type 0} (s t : Signal V) → s ≡ t → s ⊑ t
at_most_equal s t e = subst (λ u. s ⊑ u) e (at_most_refl s)

pub at_most_trans : {V : Type 0} (s t u : Signal V) → s ⊑ t → t ⊑ u → s ⊑ u
at_most_trans Unknown t u h k = tt
at_most_trans Absent t u h k = subst (λ x. x ⊑ u) (sym h) k
at_most_trans (Present v) t u h k = subst (λ x. x ⊑ u) (sym h) k

pub at_most_antisym : {V : Type 0} (s t : Signal V) → s ⊑ t → t ⊑ s → s ≡ t
at_most_antisym Unknown Unknown h k = refl
at_most_antisym Unknown Absent h k = sym k
at_most_antisym Unknown (Present v) h k = sym k
at_most_antisym Absent t h k = h
at_most_antisym (Present v) t h k = h

-- what is known stays as it is above
pub at_most_known : {V : Type 0} (s t : Signal V) → s ⊑ t → (s ≡ Unknown → ⊥) → s ≡ t
at_most_known Unknown t h n = absurd (n refl)
at_most_known Absent t h n = h
at_most_known (Present v) t h n = h

-- nothing but unknown is at most unknown
pub at_most_unknown : {V : Type 0} (s : Signal V) → s ⊑ Unknown → s ≡ Unknown
at_most_unknown Unknown h = refl
at_most_unknown Absent h = h
at_most_unknown (Present v) h = h

pub inputs_refl : {V : Type 0} (s : Inputs V) → s ⊑ⁱ s
inputs_refl s = record { a = at_most_refl s.a; b = at_most_refl s.b; c = at_most_refl s.c }

pub inputs_trans : {V : Type 0} (s t u : Inputs V) → s ⊑ⁱ t → t ⊑ⁱ u → s ⊑ⁱ u
inputs_trans s t u h k = record {
  a = at_most_trans s.a t.a u.a h.a k.a;
  b = at_most_trans s.b t.b u.b h.b k.b;
  c = at_most_trans s.c t.c u.c h.c k.c;
}

-- an answer rises with one input if it does so from unknown
pub rises : {A V : Type 0} (f : Signal A → Signal V) → ((t : Signal A) → f Unknown ⊑ f t) → (s t : Signal A) → s ⊑ t → f s ⊑ f t
rises f up Unknown t h = up t
rises f up Absent t h = at_most_equal (f Absent) (f t) (ap f h)
rises f up (Present v) t h = at_most_equal (f (Present v)) (f t) (ap f h)

-- and with three inputs if it does so with each of them from unknown
pub rises_each : {A B C V : Type 0} (f : Signal A → Signal B → Signal C → Signal V) →
    ((a : Signal A) (b : Signal B) (c : Signal C) → f Unknown b c ⊑ f a b c) →
    ((a : Signal A) (b : Signal B) (c : Signal C) → f a Unknown c ⊑ f a b c) →
    ((a : Signal A) (b : Signal B) (c : Signal C) → f a b Unknown ⊑ f a b c) →
    (a a' : Signal A) (b b' : Signal B) (c c' : Signal C) → a ⊑ a' → b ⊑ b' → c ⊑ c' → f a b c ⊑ f a' b' c'
rises_each f up-a up-b up-c a a' b b' c c' h k l =
    at_most_trans (f a b c) (f a' b c) (f a' b' c') (rises (λ s. f s b c) (λ t. up-a t b c) a a' h)
    (at_most_trans (f a' b c) (f a' b' c) (f a' b' c') (rises (λ s. f a' s c) (λ t. up-b a' t c) b b' k)
    (rises (λ s. f a' b' s) (λ t. up-c a' b' t) c c' l))
