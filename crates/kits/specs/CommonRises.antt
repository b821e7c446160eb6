-- Law one for each kind of the common kit, and both laws of the kit.
use Rattle.std.specs.Prelude.{[], ◌∷◌, refl}
use Rattle.kit.specs.declared.signal.Signal.{Signal}
use Rattle.kit.specs.declared.signal.Signal.TheVariants.{Unknown, Absent, Present}
use Rattle.kit.specs.Cells.{Cell}
use Rattle.kit.specs.Order.{◌⊑◌}
use Rattle.kit.specs.Meaning.{Rises, Monotone, Bounded}
use Rattle.kit.specs.Tables.{among, unknown}
use Rattle.kits.specs.Common.{common, common_table, common_fires, delay_fires, default, default_fires}
use Rattle.kit.proofs.AtMost.{at_most_refl, at_most_trans, rises}
use Rattle.kit.proofs.Bounds.{table_bounded}
use Rattle.kit.proofs.Rising.{among_rises}

pub delay_rises : {V : Type 0} (cell : Cell V) → Rises (delay_fires cell)
delay_rises cell s t h = at_most_refl (delay_fires cell s)

from_b : {V : Type 0} (a b b' : Signal V) → b ⊑ b' → default a b ⊑ default a b'
from_b Unknown b b' k = tt
from_b Absent b b' k = k
from_b (Present v) b b' k = at_most_refl (Present v)

pub default_rises : {V : Type 0} → Rises {V = V} default_fires
default_rises s t h =
    at_most_trans (default s.a s.b) (default t.a s.b) (default t.a t.b)
    (rises (λ x. default x s.b) (λ x. tt) s.a t.a h.a) (from_b t.a s.b t.b h.b)

pub common_monotone : {V : Type 0} → Monotone {V = V} common
common_monotone kind parameter cell port =
    among_rises ((0, among (common_fires cell) unknown kind) ∷ [])
    (among_rises (common_fires cell) (delay_rises cell, (default_rises, tt)) kind, tt) port

pub common_bounded : (V : Type 0) → Bounded {V = V} common
common_bounded V = table_bounded common_table refl
