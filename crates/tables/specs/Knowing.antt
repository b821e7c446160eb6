-- Whether wires are known.
use Rattle.std.specs.Prelude.{ℕ, Bool, ◌&&◌, List}
use Rattle.kit.specs.declared.signal.Signal.{Signal}
use Rattle.kit.specs.Known.{is_known}
use Rattle.draft.specs.declared.block.OutPorts.{OutPorts}
use Rattle.draft.specs.declared.block.OutPorts.TheVariants.{One as OneOut, Two as TwoOut}
use Rattle.machine.specs.Tables.{at}

abbrev pub known_at : {V : Type 0} → List (Signal V) → ℕ → Bool
known_at wires w = is_known (at wires w)

-- every output port's wire
abbrev pub all_known : {V : Type 0} → List (Signal V) → OutPorts → Bool
all_known wires (OneOut p) = known_at wires p
all_known wires (TwoOut p q) = known_at wires p && known_at wires q
