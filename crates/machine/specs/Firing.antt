-- Firing blocks.
use Rattle.std.specs.Prelude.{ℕ, zero, suc, List, length, slice_set}
use Rattle.kit.specs.declared.signal.Signal.{Signal}
use Rattle.kit.specs.declared.signal.Signal.TheVariants.{Unknown, Absent, Present}
use Rattle.kit.specs.Cells.{Cell}
use Rattle.kit.specs.Meaning.{Meaning}
use Rattle.draft.specs.declared.block.Block.{Block}
use Rattle.draft.specs.declared.block.OutPorts.{OutPorts}
use Rattle.draft.specs.declared.block.OutPorts.TheVariants.{One as OneOut, Two as TwoOut}
use Rattle.draft.specs.Drawings.{Drawing}
use Rattle.machine.specs.Tables.{at, cell_at, block_at, answer}

-- an unknown wire takes a signal, a known one keeps its own
abbrev pub takes : {V : Type 0} → Signal V → Signal V → Signal V
takes Unknown s = s
takes Absent s = Absent
takes (Present v) s = Present v

abbrev pub put : {V : Type 0} → List (Signal V) → ℕ → Signal V → List (Signal V)
put wires w s = slice_set wires w (takes (at wires w) s)

-- each output takes its answer
abbrev pub put_outs : {V : Type 0} → List (Signal V) → OutPorts → (ℕ → Signal V) → List (Signal V)
put_outs wires (OneOut p) answers = put wires p (answers 0)
put_outs wires (TwoOut p q) answers = put (put wires p (answers 0)) q (answers 1)

-- the wires after a block was fired: every answer is worked out from the wires before
abbrev pub after_fire : {V : Type 0} → Meaning V → List (Signal V) → Block → Cell V → List (Signal V)
after_fire m wires b cell = put_outs wires b.outputs (answer m wires b cell)

-- the first j blocks fired, in table order
abbrev pub fired : {V : Type 0} → Meaning V → Drawing → List (Cell V) → List (Signal V) → ℕ → List (Signal V)
fired m d cells wires zero = wires
fired m d cells wires (suc j) = after_fire m (fired m d cells wires j) (block_at d j) (cell_at cells j)

-- every block once
abbrev pub round : {V : Type 0} → Meaning V → Drawing → List (Cell V) → List (Signal V) → List (Signal V)
round m d cells wires = fired m d cells wires (length d.blocks)
