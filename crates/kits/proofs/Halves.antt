-- Half of a number, rounded down, is the greatest whole number whose double is not above it.
use Rattle.std.proofs.Common.{ℤ, pos, negsuc, ◌+ℤ◌, ◌≤ℤ◌, arith}
use Rattle.std.proofs.lemmas.Int.{ints}
use Rattle.kits.specs.Number.{half, GreatestHalf}

double : (z : ℤ) → (half z +ℤ half z) ≤ℤ z
double (pos n) = omega (arith, ints)
double (negsuc n) = omega (arith, ints)

greatest : (z k : ℤ) → (k +ℤ k) ≤ℤ z → k ≤ℤ half z
greatest (pos n) (pos k) h = omega (arith, ints)
greatest (pos n) (negsuc k) h = omega (arith, ints)
greatest (negsuc n) (pos k) h = omega (arith, ints)
greatest (negsuc n) (negsuc k) h = omega (arith, ints)

pub half_greatest : (z : ℤ) → GreatestHalf (half z) z
half_greatest z = record { double = double z; greatest = greatest z }
