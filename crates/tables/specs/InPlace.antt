-- Tables that fit a diagram.
use Rattle.std.specs.Prelude.{◌≡◌, ℕ, ◌<◌, List, length, slice_index_or}
use Rattle.kit.specs.declared.signal.Signal.{Signal}
use Rattle.kit.specs.Cells.{Cell}
use Rattle.draft.specs.declared.block.Block.{Block}
use Rattle.draft.specs.Drawings.{Drawing, blank}
use Rattle.diagram.specs.Marks.{Below}
use Rattle.diagram.specs.Wiring.{ins, outs}

-- every port of every block names one of n wires
abbrev pub InPlace : ℕ → List Block → Type 0
InPlace n bs = (k : ℕ) → k < length bs → Below n (ins (slice_index_or bs k blank).inputs) × Below n (outs (slice_index_or bs k blank).outputs)

-- a wire for each of the diagram's, and a cell for each block
pub record Fit {V : Type 0} (d : Drawing) (wires : List (Signal V)) (cells : List (Cell V)) : Type 0 where
  pub wires_fit : length wires ≡ d.wires
  pub cells_fit : length cells ≡ length d.blocks
