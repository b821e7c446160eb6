use Rattle.std.proofs.Common.{refl}
use Rattle.worked.proofs.Loops.{or_loop, and_loop}
use Rattle.worked.proofs.the_eight_cases.Goals as goal

pub returns : goal.returns
returns c =
    record {
      mean_below_zero = refl;
      sum_held = refl;
      default_waits = refl;
      default_taken = refl;
      adder_waits = (refl, refl);
      adder_carries = (refl, refl);
      or_loop = or_loop;
      and_loop = and_loop;
    }
