-- Numbers in base ten, as a field writes them.
use Rattle.std.specs.Prelude.{◌≡◌, ℕ, ◌-◌, ◌^◌, ◌<◌, ◌≤◌, Bool, cond, not, ◌&&◌, ◌||◌, List, length, drop, ℤ, pos, neg_ℤ, Ok, Err, decimal, Result, ◌==◌, nat_le, nat_lt, slice_index}
use Rattle.std.specs.Int.Signed.{mag}
use Rattle.std.specs.Str.Parse.{digits_value}
use Rattle.std.specs.Fmt.{signed_decimal}
use Rattle.std.specs.Str.{all_ascii_digits}
use Rattle.text.specs.declared.fault.Cause.{Cause}
use Rattle.text.specs.declared.fault.Cause.TheVariants.{Form, Range}
use Rattle.text.specs.Results.{mapped}

-- above every range of this crate
abbrev pub beyond : ℕ
beyond = 2 ^ 32

-- at least one digit, nothing else, and no zero before another digit
abbrev pub well_formed : List ℕ → Bool
well_formed ds = nat_lt 0 (length ds) && (not (slice_index ds 0 == 48) || length ds == 1) && all_ascii_digits ds

-- a number from 0 to `most`: ill-formed is told before out of range
unfoldable pub number_in : ℕ → List ℕ → Result ℕ Cause
number_in most ds = cond (well_formed ds) (cond (nat_le (digits_value 10 ds) most) (Ok (digits_value 10 ds)) (Err Range)) (Err Form)

-- what follows a minus sign: a number other than 0
abbrev pub negative_in : List ℕ → Result ℤ Cause
negative_in ds = cond (slice_index ds 0 == 48) (Err Form) (mapped (λ n. neg_ℤ (pos n)) (number_in (2 ^ 31) ds))

-- a signed 32-bit number
unfoldable pub integer_in : List ℕ → Result ℤ Cause
integer_in field = cond (slice_index field 0 == 45) (negative_in (drop 1 field)) (mapped pos (number_in (2 ^ 31 - 1) field))

-- The law above these definitions: a field is accepted as v exactly when it is the text of v, and v is in range.
pub record Exactly {V : Type 0} (text : V → List ℕ) (InRange : V → Type 0) (field : List ℕ) (r : Result V Cause) : Type 0 where
  pub only : (v : V) → r ≡ Ok v → (field ≡ text v) × InRange v
  pub all : (v : V) → field ≡ text v → InRange v → r ≡ Ok v

abbrev pub ExactNumber : ℕ → List ℕ → Result ℕ Cause → Type 0
ExactNumber most = Exactly decimal (λ n. n ≤ most)

-- `mag z` is n both at n and at -(n + 1), so that below 2 ^ 31 it is a signed 32-bit number
abbrev pub ExactInteger : List ℕ → Result ℤ Cause → Type 0
ExactInteger = Exactly signed_decimal (λ z. mag z < 2 ^ 31)
