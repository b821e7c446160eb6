-- Law one for each kind of the number kit, and both laws of the kit.
use Rattle.std.specs.Prelude.{zero, suc, [], ◌∷◌, ℤ, pos, negsuc, refl}
use Rattle.kit.specs.declared.signal.Signal.{Signal}
use Rattle.kit.specs.declared.signal.Signal.TheVariants.{Unknown, Absent, Present}
use Rattle.kit.specs.Cells.{Cell}
use Rattle.kit.specs.Order.{◌⊑◌}
use Rattle.kit.specs.Meaning.{Rises, Monotone, Bounded}
use Rattle.kit.specs.Tables.{among, unknown}
use Rattle.kits.specs.Number.{number, number_table, number_fires, constant_fires, sum_fires, mean_fires, choose, choose_fires, count, count_fires}
use Rattle.kit.proofs.AtMost.{at_most_refl, rises, at_most_trans}
use Rattle.kit.proofs.Bounds.{table_bounded}
use Rattle.kit.proofs.Rising.{strict_of_two, among_rises}

pub constant_rises : (parameter : ℤ) → Rises (constant_fires parameter)
constant_rises parameter s t h = at_most_refl (Present parameter)

pub sum_rises : Rises sum_fires
sum_rises = strict_of_two _

pub mean_rises : Rises mean_fires
mean_rises = strict_of_two _

from_branches : (gate : Signal ℤ) (b b' c c' : Signal ℤ) → b ⊑ b' → c ⊑ c' → choose gate b c ⊑ choose gate b' c'
from_branches Unknown b b' c c' h k = tt
from_branches Absent b b' c c' h k = at_most_refl Absent
from_branches (Present (pos zero)) b b' c c' h k = k
from_branches (Present (pos (suc n))) b b' c c' h k = h
from_branches (Present (negsuc n)) b b' c c' h k = h

pub choose_rises : Rises choose_fires
choose_rises s t h =
    at_most_trans (choose s.a s.b s.c) (choose t.a s.b s.c) (choose t.a t.b t.c)
    (rises (λ x. choose x s.b s.c) (λ x. tt) s.a t.a h.a)
    (from_branches t.a s.b t.b s.c t.c h.b h.c)

pub count_rises : (cell : Cell ℤ) → Rises (count_fires cell)
count_rises cell s t h = rises (count cell) (λ x. tt) s.a t.a h.a

pub number_monotone : Monotone number
number_monotone kind parameter cell port =
    among_rises ((0, among (number_fires parameter cell) unknown kind) ∷ [])
    (among_rises (number_fires parameter cell) (constant_rises parameter, (sum_rises, (mean_rises, (choose_rises, (count_rises cell, tt))))) kind, tt) port

pub number_bounded : Bounded number
number_bounded = table_bounded number_table refl
