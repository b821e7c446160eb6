-- Answers that rise with the inputs: strict kinds, and tables of kinds.
use Rattle.std.proofs.Common.{◌≡◌, ℕ, Bool, true, false, cond, ◌||◌, eqb, List, [], ◌∷◌, sym, refl, subst}
use Rattle.std.proofs.lemmas.Bool.{cond_both}
use Rattle.kit.specs.declared.signal.Signal.{Signal}
use Rattle.kit.specs.declared.signal.Signal.TheVariants.{Unknown, Absent, Present}
use Rattle.kit.specs.declared.signal.Inputs.{Inputs}
use Rattle.kit.specs.Order.{◌⊑◌}
use Rattle.kit.specs.Meaning.{Rises}
use Rattle.kit.specs.Strict.{strict, together}
use Rattle.kit.specs.Tables.{among, unknown}
use Rattle.kit.proofs.AtMost.{at_most_trans, rises}

pub strict_rises : {A V : Type 0} (rule : A → V) (s t : Signal A) → s ⊑ t → strict rule s ⊑ strict rule t
strict_rises rule = rises (strict rule) (λ t. tt)

-- signals of which one is unknown are unknown together
together_from_unknown : {A B : Type 0} (a : Signal A) (t : Signal B) → together a Unknown ⊑ together a t
together_from_unknown Unknown t = tt
together_from_unknown Absent t = tt
together_from_unknown (Present x) t = tt

pub together_rises : {A B : Type 0} (a a' : Signal A) (b b' : Signal B) → a ⊑ a' → b ⊑ b' → together a b ⊑ together a' b'
together_rises a a' b b' h k =
    at_most_trans (together a b) (together a' b) (together a' b')
    (rises (λ s. together s b) (λ t. tt) a a' h)
    (rises (λ s. together a' s) (λ t. together_from_unknown a' t) b b' k)

-- what holds of every answer of a table
abbrev pub Each : {A : Type 0} → (A → Type 0) → List (ℕ × A) → Type 0
Each P [] = Unit {0}
Each P (entry ∷ rest) = P entry.1 × Each P rest

-- holds of the answer that the table gives
pub among_each : {A : Type 0} (P : A → Type 0) (rows : List (ℕ × A)) (other : A) → Each P rows → P other → (n : ℕ) → P (among rows other n)
among_each P [] other h k n = k
among_each P (entry ∷ rest) other h k n =
    cond_both (eqb n entry.0) entry.1 (among rest other n) P (λ _. h.0) (λ _. among_each P rest other h.1 k n)

-- a table whose answers all rise gives one that rises
pub among_rises : {V : Type 0} (rows : List (ℕ × (Inputs V → Signal V))) → Each Rises rows → (n : ℕ) → Rises (among rows unknown n)
among_rises rows h = among_each Rises rows unknown h (λ s t k. tt)

-- strict kinds of one, two and three inputs
pub strict_of_one : {V : Type 0} (rule : V → V) → Rises (λ i. strict rule i.a)
strict_of_one rule s t h = strict_rises rule s.a t.a h.a

pub strict_of_two : {V : Type 0} (rule : V × V → V) → Rises (λ i. strict rule (together i.a i.b))
strict_of_two rule s t h =
    strict_rises rule (together s.a s.b) (together t.a t.b) (together_rises s.a t.a s.b t.b h.a h.b)

pub strict_of_three : {V : Type 0} (rule : V × (V × V) → V) → Rises (λ i. strict rule (together i.a (together i.b i.c)))
strict_of_three rule s t h =
    strict_rises rule (together s.a (together s.b s.c)) (together t.a (together t.b t.c))
    (together_rises s.a t.a (together s.b s.c) (together t.b t.c) h.a
    (together_rises s.b t.b s.c t.c h.b h.c))

-- a kind of two inputs that answers at once where either settles it, and is strict else
module _ {V : Type 0} (settles : Signal V → Bool) (answer : V) (rule : V × V → V) (none : settles Unknown ≡ false) where
  abbrev told : Bool → Bool → Signal V → Signal V → Signal V
  told x y a b = cond (x || y) (Present answer) (strict rule (together a b))

  left_in : (x y : Bool) (a b : Signal V) → told false y Unknown b ⊑ told x y a b
  left_in true true a b = refl
  left_in false true a b = refl
  left_in true false a b = tt
  left_in false false a b = tt

  right_in : (x y : Bool) (a b : Signal V) → told x false a Unknown ⊑ told x y a b
  right_in true y a b = refl
  right_in false y Unknown b = tt
  right_in false y Absent b = tt
  right_in false y (Present v) b = tt

  abbrev early : Signal V → Signal V → Signal V
  early a b = told (settles a) (settles b) a b

  pub early_of_two : Rises (λ i. cond (settles i.a || settles i.b) (Present answer) (strict rule (together i.a i.b)))
  early_of_two s t h =
      at_most_trans (early s.a s.b) (early t.a s.b) (early t.a t.b)
      (rises (λ x. early x s.b) (λ x. subst (λ u. told u (settles s.b) Unknown s.b ⊑ early x s.b) (sym none) (left_in (settles x) (settles s.b) x s.b)) s.a t.a h.a)
      (rises (λ x. early t.a x) (λ x. subst (λ u. told (settles t.a) u t.a Unknown ⊑ early t.a x) (sym none) (right_in (settles t.a) (settles x) t.a x)) s.b t.b h.b)
