-- The kinds of each kit by their numbers.
use Rattle.std.specs.Prelude.{ℕ, [], ◌∷◌, Ok, Err, Result}
use Rattle.kit.specs.declared.table.UnknownKind.{UnknownKind}
use Rattle.kit.specs.Tables.{among}
use Rattle.kits.specs.declared.common.Kind.{Kind as CommonKind}
use Rattle.kits.specs.declared.common.Kind.TheVariants.{Delay, Default}
use Rattle.kits.specs.declared.number.Kind.{Kind as NumberKind}
use Rattle.kits.specs.declared.number.Kind.TheVariants.{Constant, Sum, Mean, Choose, Count}
use Rattle.kits.specs.declared.switch.Kind.{Kind as SwitchKind}
use Rattle.kits.specs.declared.switch.Kind.TheVariants.{Constant as SwitchConstant, And, Or, Not, Adder}

abbrev pub common_kind : ℕ → Result CommonKind UnknownKind
common_kind = among ((1, Ok Delay) ∷ (3, Ok Default) ∷ []) (Err (record {}))

abbrev pub number_kind : ℕ → Result NumberKind UnknownKind
number_kind = among ((16, Ok Constant) ∷ (17, Ok Sum) ∷ (19, Ok Mean) ∷ (25, Ok Choose) ∷ (26, Ok Count) ∷ []) (Err (record {}))

abbrev pub switch_kind : ℕ → Result SwitchKind UnknownKind
switch_kind = among ((64, Ok SwitchConstant) ∷ (65, Ok And) ∷ (66, Ok Or) ∷ (67, Ok Not) ∷ (68, Ok Adder) ∷ []) (Err (record {}))
