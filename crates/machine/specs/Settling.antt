-- Rounds until one makes no wire known.
use Rattle.std.specs.Prelude.{ℕ, zero, suc, ◌-◌, ◌*◌, cond, List, length, ◌==◌}
use Rattle.kit.specs.declared.signal.Signal.{Signal}
use Rattle.kit.specs.Cells.{Cell}
use Rattle.kit.specs.Meaning.{Meaning}
use Rattle.draft.specs.Drawings.{Drawing}
use Rattle.machine.specs.declared.answers.Settled.{Settled}
use Rattle.machine.specs.Firing.{round}
use Rattle.machine.specs.Tables.{known}

-- rounds and the wires after them
pub record Rounds (V : Type 0) : Type 0 where
  pub count : ℕ
  pub wires : List (Signal V)

-- The last round makes no wire known. No more rounds are needed than there are wires, and one (a law shows it), so a
-- bound of that many is never reached.
unfoldable pub rounds : {V : Type 0} → Meaning V → Drawing → List (Cell V) → ℕ → List (Signal V) → Rounds V
rounds m d cells zero wires = record { count = 0; wires = wires }
rounds m d cells (suc bound) wires =
    let after = round m d cells wires in
    let more = rounds m d cells bound after in
    cond (known after == known wires) (record { count = 1; wires = after }) (record { count = suc more.count; wires = more.wires })

abbrev pub settled : {V : Type 0} → Meaning V → Drawing → List (Cell V) → List (Signal V) → Rounds V
settled m d cells wires = rounds m d cells (suc (length wires)) wires

-- what a settle answers
abbrev pub settle_answer : {V : Type 0} → Meaning V → Drawing → List (Cell V) → List (Signal V) → Settled
settle_answer m d cells wires =
    let s = settled m d cells wires in
    record { rounds = s.count; firings = s.count * length d.blocks; known = known s.wires - known wires; unknown = length wires - known s.wires }
