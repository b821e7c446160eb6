-- A drawing: a diagram as plain data.
use Rattle.std.specs.Prelude.{ℕ, ◌^◌, ◌<◌, ◌≤◌, List, pos}
use Rattle.std.specs.Int.Signed.{mag}
use Rattle.draft.specs.declared.block.Block.{Block}
use Rattle.draft.specs.declared.block.InPorts.TheVariants.{Zero}
use Rattle.draft.specs.declared.block.OutPorts.TheVariants.{One as OneOut}
use Rattle.draft.specs.Limits.{last_kind}

-- wires 0 to inputs - 1 are the inputs; blocks are numbered from 0
pub record Drawing : Type 0 where
  pub inputs : ℕ
  pub wires : ℕ
  pub blocks : List Block

-- what a look past the last block finds
abbrev pub blank : Block
blank = record { kind = 0; parameter = pos 0; inputs = Zero; outputs = OneOut 0 }

-- the kind and the parameter can be written down; `mag z` is n both at n and at -(n + 1)
abbrev pub InRange : Block → Type 0
InRange b = (b.kind ≤ last_kind) × (mag b.parameter < 2 ^ 31)
