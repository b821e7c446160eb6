-- The values of the switch bench: 0 is no and 1 is yes.
use Rattle.std.specs.Prelude.{◌≡◌, Bool, true, false, cond, ℤ, pos, negsuc, Some, None, Option, ◌==◌, refl}

abbrev pub switched : ℤ → Option Bool
switched (pos n) = cond (n == 0) (Some false) (cond (n == 1) (Some true) None)
switched (negsuc n) = None

abbrev pub switch_number : Bool → ℤ
switch_number false = pos 0
switch_number true = pos 1

-- a value is what its number stands for
pub switch_back : (v : Bool) → switched (switch_number v) ≡ Some v
switch_back false = refl
switch_back true = refl
