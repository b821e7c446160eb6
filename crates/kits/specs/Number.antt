-- The number kit: constant, sum, mean, choose and count, over signed 32-bit numbers.
use Rattle.std.specs.Prelude.{ℕ, zero, suc, ◌/◌, cond, List, [], ◌∷◌, ℤ, pos, negsuc, ◌+ℤ◌, ◌≤ℤ◌, int_lt, None, Some}
use Rattle.kit.specs.declared.signal.Signal.{Signal}
use Rattle.kit.specs.declared.signal.Signal.TheVariants.{Unknown, Absent, Present}
use Rattle.kit.specs.Cells.{Cell}
use Rattle.kit.specs.declared.signal.Inputs.{Inputs}
use Rattle.kit.specs.declared.table.KindPorts.{KindPorts}
use Rattle.kit.specs.Cells.{taking}
use Rattle.kit.specs.Meaning.{Meaning}
use Rattle.kit.specs.Strict.{strict, together}
use Rattle.kit.specs.Tables.{among, row, ports_in, unknown}

-- the ends of the signed 32-bit range
abbrev pub lowest : ℤ
lowest = negsuc 2147483647

abbrev pub highest : ℤ
highest = pos 2147483647

-- replaced by the nearer end of the range when outside it
abbrev pub held : ℤ → ℤ
held z = cond (int_lt z lowest) lowest (cond (int_lt highest z) highest z)

-- half of a number, rounded down: below zero too, since negsuc n is - n - 1
abbrev pub half : ℤ → ℤ
half (pos n) = pos (n / 2)
half (negsuc n) = negsuc (n / 2)

-- m is the greatest whole number whose double is not above z
pub record GreatestHalf (m z : ℤ) : Type 0 where
  pub double : (m +ℤ m) ≤ℤ z
  pub greatest : (k : ℤ) → (k +ℤ k) ≤ℤ z → k ≤ℤ m

-- the mean of two numbers, rounded down
abbrev pub mean_of : ℤ → ℤ → ℤ
mean_of a b = half (a +ℤ b)

-- it is the greatest whole number whose double is not above their sum
abbrev pub MeanInWords : Type 0
MeanInWords = (a b : ℤ) → GreatestHalf (mean_of a b) (a +ℤ b)

-- 16, constant: the parameter
abbrev pub constant_fires : ℤ → Inputs ℤ → Signal ℤ
constant_fires parameter i = Present parameter

-- 17, sum. Strict: a + b, held
abbrev pub sum_fires : Inputs ℤ → Signal ℤ
sum_fires i = strict (λ v. held (v.0 +ℤ v.1)) (together i.a i.b)

-- 19, mean. Strict: the greatest whole number whose double is not above a + b
abbrev pub mean_fires : Inputs ℤ → Signal ℤ
mean_fires i = strict (λ v. mean_of v.0 v.1) (together i.a i.b)

-- the branch that a gate's number takes: c if it is 0, else b
abbrev pub branch : ℤ → Signal ℤ → Signal ℤ → Signal ℤ
branch (pos zero) b c = c
branch (pos (suc n)) b c = b
branch (negsuc n) b c = b

-- 25, choose: b if a is present and not 0, c if a is 0, else a's own absent or unknown
abbrev pub choose : Signal ℤ → Signal ℤ → Signal ℤ → Signal ℤ
choose Unknown b c = Unknown
choose Absent b c = Absent
choose (Present gate) b c = branch gate b c

abbrev pub choose_fires : Inputs ℤ → Signal ℤ
choose_fires i = choose i.a i.b i.c

-- what a counting cell counts; an empty one counts as 0
abbrev pub count_of : Cell ℤ → ℤ
count_of None = pos 0
count_of (Some n) = n

-- 26, count: starts holding the parameter
abbrev pub count_starts : ℤ → Cell ℤ
count_starts parameter = Some parameter

-- unknown if a is; the cell plus 1, held, if a is present; the cell if a is absent
abbrev pub count : Cell ℤ → Signal ℤ → Signal ℤ
count cell Unknown = Unknown
count cell Absent = Present (count_of cell)
count cell (Present v) = Present (held (count_of cell +ℤ pos 1))

abbrev pub count_fires : Cell ℤ → Inputs ℤ → Signal ℤ
count_fires cell i = count cell i.a

-- next is that answer; an unknown one leaves the cell
abbrev pub count_next : Cell ℤ → Inputs ℤ → Cell ℤ
count_next cell i = taking cell (count_fires cell i)

abbrev pub number_table : List KindPorts
number_table = row 16 0 1 ∷ row 17 2 1 ∷ row 19 2 1 ∷ row 25 3 1 ∷ row 26 1 1 ∷ []

-- what each kind answers, from the inputs
abbrev pub number_fires : ℤ → Cell ℤ → List (ℕ × (Inputs ℤ → Signal ℤ))
number_fires parameter cell =
    (16, constant_fires parameter)
    ∷ (17, sum_fires)
    ∷ (19, mean_fires)
    ∷ (25, choose_fires)
    ∷ (26, count_fires cell)
    ∷ []

-- every kind has one output, port 0
abbrev pub number : Meaning ℤ
number = record {
  ports = ports_in number_table;
  start = λ kind parameter. among ((26, count_starts parameter) ∷ []) None kind;
  fire = λ kind parameter cell port. among ((0, among (number_fires parameter cell) unknown kind) ∷ []) unknown port;
  next = λ kind parameter cell i. among ((26, count_next cell i) ∷ []) cell kind;
}
