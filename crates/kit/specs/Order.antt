-- The order on signals.
use Rattle.std.specs.Prelude.{◌≡◌, ◌⊎◌, ◌↔◌}
use Rattle.kit.specs.declared.signal.Signal.{Signal}
use Rattle.kit.specs.declared.signal.Signal.TheVariants.{Unknown, Absent, Present}
use Rattle.kit.specs.declared.signal.Inputs.{Inputs}

infix 4 ◌⊑◌ ◌⊑ⁱ◌
-- s is at most t: s is unknown, or s equals t
abbrev pub ◌⊑◌ : {V : Type 0} → Signal V → Signal V → Type 0
Unknown ⊑ t = Unit {0}
Absent ⊑ t = Absent ≡ t
(Present v) ⊑ t = Present v ≡ t

-- each input signal is at most its counterpart
pub record ◌⊑ⁱ◌ {V : Type 0} (s t : Inputs V) : Type 0 where
  pub a : s.a ⊑ t.a
  pub b : s.b ⊑ t.b
  pub c : s.c ⊑ t.c

-- "at most" says what its words say, and is an order
pub record AtMostIsAnOrder (V : Type 0) : Type 0 where
  pub words : (s t : Signal V) → s ⊑ t ↔ ((s ≡ Unknown) ⊎ (s ≡ t))
  pub reflexive : (s : Signal V) → s ⊑ s
  pub transitive : (s t u : Signal V) → s ⊑ t → t ⊑ u → s ⊑ u
  pub antisymmetric : (s t : Signal V) → s ⊑ t → t ⊑ s → s ≡ t
