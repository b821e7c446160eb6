-- The shop's kinds by their numbers.
use Rattle.std.specs.Prelude.{ℕ, [], ◌∷◌, Ok, Err, Result}
use Rattle.kit.specs.declared.table.UnknownKind.{UnknownKind}
use Rattle.kit.specs.Tables.{among}
use Rattle.shop_kit.specs.declared.Kind.{Kind}
use Rattle.shop_kit.specs.declared.Kind.TheVariants.{Larger, Interlock}

abbrev pub shop_kind : ℕ → Result Kind UnknownKind
shop_kind = among ((200, Ok Larger) ∷ (201, Ok Interlock) ∷ []) (Err (record {}))
