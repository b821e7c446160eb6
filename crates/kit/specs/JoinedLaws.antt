-- Both laws of the joined kit, from those of the two.
use Rattle.std.specs.Prelude.{◌≤◌}
use Rattle.std.proofs.lemmas.Bool.{cond_both}
use Rattle.kit.specs.Meaning.{Meaning, Rises, Monotone, Bounded, knows}
use Rattle.kit.specs.Joined.{joined}

pub joined_monotone : {V : Type 0} (m n : Meaning V) → Monotone m → Monotone n → Monotone (joined m n)
joined_monotone m n h k kind parameter cell port =
    cond_both (knows m kind) m n (λ a. Rises (a.fire kind parameter cell port)) (λ _. h kind parameter cell port) (λ _. k kind parameter cell port)

pub joined_bounded : {V : Type 0} (m n : Meaning V) → Bounded m → Bounded n → Bounded (joined m n)
joined_bounded m n h k kind =
    cond_both (knows m kind) m n (λ a. ((a.ports kind).inputs ≤ 3) × ((a.ports kind).outputs ≤ 2)) (λ _. h kind) (λ _. k kind)
