-- Solutions: what the wires may be, for given cells and supplied inputs.
use Rattle.std.specs.Prelude.{◌≡◌, ℕ, ◌<◌, List, length}
use Rattle.kit.specs.declared.signal.Signal.{Signal}
use Rattle.kit.specs.Cells.{Cell}
use Rattle.kit.specs.Meaning.{Meaning, Lawful}
use Rattle.kit.specs.Order.{◌⊑◌}
use Rattle.draft.specs.declared.block.OutPorts.{OutPorts}
use Rattle.draft.specs.declared.block.OutPorts.TheVariants.{One as OneOut, Two as TwoOut}
use Rattle.draft.specs.Drawings.{Drawing}
use Rattle.diagram.specs.Reading.{IsDiagram}
use Rattle.machine.specs.Tables.{at, cell_at, block_at, answer}

-- P of each output port's wire and number
abbrev pub EachOutput : OutPorts → (ℕ → ℕ → Type 0) → Type 0
EachOutput (OneOut p) P = P p 0
EachOutput (TwoOut p q) P = P p 0 × P q 1

-- An input wire has its supplied signal, unknown where none was supplied; a driven wire has what the kit answers for the
-- block and port that drive it.
pub record Solution {V : Type 0} (m : Meaning V) (d : Drawing) (cells : List (Cell V)) (inputs wires : List (Signal V)) : Type 0 where
  pub long : length wires ≡ d.wires
  pub supplied : (w : ℕ) → w < d.inputs → at wires w ≡ at inputs w
  pub answered : (k : ℕ) → k < length d.blocks → EachOutput (block_at d k).outputs (λ w port. at wires w ≡ answer m wires (block_at d k) (cell_at cells k) port)

-- every wire is at most the same wire of every other solution
pub record Least {V : Type 0} (m : Meaning V) (d : Drawing) (cells : List (Cell V)) (inputs wires : List (Signal V)) : Type 0 where
  pub solves : Solution m d cells inputs wires
  pub least : (t : List (Signal V)) → Solution m d cells inputs t → (w : ℕ) → at wires w ⊑ at t w

-- there is exactly one
pub record OneLeast {V : Type 0} (m : Meaning V) (d : Drawing) (cells : List (Cell V)) (inputs : List (Signal V)) : Type 0 where
  pub wires : List (Signal V)
  pub is : Least m d cells inputs wires
  pub only : (t : List (Signal V)) → Least m d cells inputs t → t ≡ wires

-- for given cells and inputs there is exactly one least solution, over every meaning that keeps both laws
abbrev pub OneLeastSolution : Type 0 → Type 0
OneLeastSolution V = (m : Meaning V) → Lawful m → (d : Drawing) → IsDiagram d → (cells : List (Cell V)) (inputs : List (Signal V)) → OneLeast m d cells inputs
