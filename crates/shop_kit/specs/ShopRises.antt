-- Law one for each kind of the shop, and both laws of its kit.
use Rattle.std.specs.Prelude.{[], ◌∷◌, refl}
use Rattle.kit.specs.Meaning.{Rises, Monotone, Bounded}
use Rattle.kit.specs.Tables.{among, unknown}
use Rattle.kit.proofs.Bounds.{table_bounded}
use Rattle.kit.proofs.Rising.{strict_of_two, early_of_two, among_rises}
use Rattle.shop_kit.specs.Shop.{shop, shop_table, shop_fires, larger_fires, is_zero, interlock_fires}

-- a strict kind has law one from its form
pub larger_rises : Rises larger_fires
larger_rises = strict_of_two _

-- so has a kind that is strict unless an input already settles its answer
pub interlock_rises : Rises interlock_fires
interlock_rises = early_of_two is_zero _ _ refl

pub shop_monotone : Monotone shop
shop_monotone kind parameter cell port =
    among_rises ((0, among shop_fires unknown kind) ∷ [])
    (among_rises shop_fires (larger_rises, (interlock_rises, tt)) kind, tt) port

pub shop_bounded : Bounded shop
shop_bounded = table_bounded shop_table refl
