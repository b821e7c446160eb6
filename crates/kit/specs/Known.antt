-- Whether a signal is known.
use Rattle.std.specs.Prelude.{Bool, true, false}
use Rattle.kit.specs.declared.signal.Signal.{Signal}
use Rattle.kit.specs.declared.signal.Signal.TheVariants.{Unknown, Absent, Present}

abbrev pub is_known : {V : Type 0} → Signal V → Bool
is_known Unknown = false
is_known Absent = true
is_known (Present v) = true
