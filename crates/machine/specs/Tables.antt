-- Wires and cells as tables, and what a block reads of them.
use Rattle.std.specs.Prelude.{ℕ, ◌+◌, List, [], ◌∷◌, slice_index_or, None}
use Rattle.kit.specs.declared.signal.Signal.{Signal}
use Rattle.kit.specs.declared.signal.Signal.TheVariants.{Unknown, Absent, Present}
use Rattle.kit.specs.Cells.{Cell}
use Rattle.kit.specs.declared.signal.Inputs.{Inputs}
use Rattle.kit.specs.Meaning.{Meaning}
use Rattle.draft.specs.declared.block.Block.{Block}
use Rattle.draft.specs.declared.block.InPorts.{InPorts}
use Rattle.draft.specs.declared.block.InPorts.TheVariants.{Zero, One as OneIn, Two as TwoIn, Three}
use Rattle.draft.specs.Drawings.{Drawing, blank}

-- the signal of wire w; past the last wire nothing is known
abbrev pub at : {V : Type 0} → List (Signal V) → ℕ → Signal V
at wires w = slice_index_or wires w Unknown

abbrev pub cell_at : {V : Type 0} → List (Cell V) → ℕ → Cell V
cell_at cells k = slice_index_or cells k None

abbrev pub block_at : Drawing → ℕ → Block
block_at d k = slice_index_or d.blocks k blank

-- how many wires are known
abbrev pub weight : {V : Type 0} → Signal V → ℕ
weight Unknown = 0
weight Absent = 1
weight (Present v) = 1

abbrev pub known : {V : Type 0} → List (Signal V) → ℕ
known [] = 0
known (s ∷ wires) = weight s + known wires

-- the signals at a block's inputs; an input that it lacks is absent
abbrev pub reads : {V : Type 0} → List (Signal V) → InPorts → Inputs V
reads wires Zero = record { a = Absent; b = Absent; c = Absent }
reads wires (OneIn a) = record { a = at wires a; b = Absent; c = Absent }
reads wires (TwoIn a b) = record { a = at wires a; b = at wires b; c = Absent }
reads wires (Three a b c) = record { a = at wires a; b = at wires b; c = at wires c }

-- what the kit answers for a block with this cell, at an output port
abbrev pub answer : {V : Type 0} → Meaning V → List (Signal V) → Block → Cell V → ℕ → Signal V
answer m wires b cell port = m.fire b.kind b.parameter cell port (reads wires b.inputs)

-- the block's cell after a kept tick
abbrev pub next_cell : {V : Type 0} → Meaning V → List (Signal V) → Block → Cell V → Cell V
next_cell m wires b cell = m.next b.kind b.parameter cell (reads wires b.inputs)
