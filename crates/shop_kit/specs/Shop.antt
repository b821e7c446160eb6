-- The kit of a shop: larger and interlock, over signed 32-bit numbers.
use Rattle.std.specs.Prelude.{ℕ, zero, suc, Bool, true, false, cond, ◌||◌, List, [], ◌∷◌, ℤ, pos, negsuc, None}
use Rattle.std.specs.Int.{int_max, int_min}
use Rattle.kit.specs.declared.signal.Signal.{Signal}
use Rattle.kit.specs.declared.signal.Signal.TheVariants.{Unknown, Absent, Present}
use Rattle.kit.specs.declared.signal.Inputs.{Inputs}
use Rattle.kit.specs.declared.table.KindPorts.{KindPorts}
use Rattle.kit.specs.Meaning.{Meaning}
use Rattle.kit.specs.Strict.{strict, together}
use Rattle.kit.specs.Tables.{among, row, ports_in, unknown}
use Rattle.kits.specs.Common.{common}
use Rattle.kit.specs.Joined.{joined}

-- 200, larger. Strict: the larger of a and b
abbrev pub larger_fires : Inputs ℤ → Signal ℤ
larger_fires i = strict (λ v. int_max v.0 v.1) (together i.a i.b)

-- the signal is the number 0
abbrev pub is_zero : Signal ℤ → Bool
is_zero Unknown = false
is_zero Absent = false
is_zero (Present (pos zero)) = true
is_zero (Present (pos (suc n))) = false
is_zero (Present (negsuc n)) = false

-- 201, interlock: 0 if either input is 0; else as strict, the smaller of a and b
abbrev pub interlock_fires : Inputs ℤ → Signal ℤ
interlock_fires i =
    cond (is_zero i.a || is_zero i.b) (Present (pos 0)) (strict (λ v. int_min v.0 v.1) (together i.a i.b))

abbrev pub shop_table : List KindPorts
shop_table = row 200 2 1 ∷ row 201 2 1 ∷ []

-- what each kind answers, from the inputs
abbrev pub shop_fires : List (ℕ × (Inputs ℤ → Signal ℤ))
shop_fires = (200, larger_fires) ∷ (201, interlock_fires) ∷ []

-- every kind has one output, port 0, and no use for its cell
abbrev pub shop : Meaning ℤ
shop = record {
  ports = ports_in shop_table;
  start = λ kind parameter. None;
  fire = λ kind parameter cell port. among ((0, among shop_fires unknown kind) ∷ []) unknown port;
  next = λ kind parameter cell i. cell;
}

-- the kit that the shop sells: common joined with its own
abbrev pub sold : Meaning ℤ
sold = joined common shop
