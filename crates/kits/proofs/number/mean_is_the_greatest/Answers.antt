-- The mean is the half of the sum.
use Rattle.std.proofs.Common.{◌+ℤ◌}
use Rattle.kits.proofs.Halves.{half_greatest}
use Rattle.kits.proofs.number.mean_is_the_greatest.Goals as goal

pub returns : goal.returns
returns c = λ a b. half_greatest (a +ℤ b)
