-- The kits of the two benches.
use Rattle.std.specs.Prelude.{Bool, ℤ}
use Rattle.kit.specs.Meaning.{Meaning}
use Rattle.kits.specs.Common.{common}
use Rattle.kits.specs.Number.{number}
use Rattle.kits.specs.Switch.{switch}
use Rattle.kit.specs.Joined.{joined}

-- the number bench: common joined with number
abbrev pub number_bench : Meaning ℤ
number_bench = joined common number

-- the switch bench: common joined with switch
abbrev pub switch_bench : Meaning Bool
switch_bench = joined common switch
