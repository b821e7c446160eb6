-- The machine: a run's state, and for each call its answer and the state after it, refused or not.
use Rattle.std.specs.Prelude.{◌≡◌, ℕ, suc, ◌+◌, ◌-◌, Bool, cond, ◌&&◌, List, [], ◌∷◌, length, replicate, Ok, Err, Result, ◌==◌, nat_le, slice_set}
use Rattle.text.specs.declared.fault.Cause.TheVariants.{KitDiffers, TableLength, NoTickOpen, TickOpen, NoTickLeft, NumberOutside, AlreadyKnown, WrongToken}
use Rattle.text.specs.declared.fault.Fault.{Fault}
use Rattle.text.specs.Results.{fault}
use Rattle.kit.specs.declared.question.Ports.{Ports}
use Rattle.kit.specs.declared.signal.Signal.{Signal}
use Rattle.kit.specs.declared.signal.Signal.TheVariants.{Unknown, Absent, Present}
use Rattle.kit.specs.Cells.{Cell}
use Rattle.kit.specs.Meaning.{Meaning}
use Rattle.draft.specs.declared.block.Block.{Block}
use Rattle.draft.specs.Drawings.{Drawing}
use Rattle.diagram.specs.Wiring.{ins, outs}
use Rattle.machine.specs.declared.answers.Phase.{Phase}
use Rattle.machine.specs.declared.answers.Phase.TheVariants.{Resting, Open, Void}
use Rattle.machine.specs.declared.answers.Given.{Given}
use Rattle.machine.specs.declared.answers.Given.TheVariants.{Absent as GivenAbsent, Present as GivenPresent}
use Rattle.machine.specs.declared.answers.Intent.{Intent}
use Rattle.machine.specs.declared.answers.Intent.TheVariants.{Keep, Drop}
use Rattle.machine.specs.declared.answers.Settled.{Settled}
use Rattle.machine.specs.declared.answers.Closed.{Closed}
use Rattle.machine.specs.declared.answers.Closed.TheVariants.{Kept, Undetermined, Dropped}
use Rattle.machine.specs.Firing.{after_fire}
use Rattle.machine.specs.Settling.{settled, settle_answer}
use Rattle.machine.specs.Tables.{at, cell_at, block_at, known, next_cell}

-- as many ticks may begin in a run
abbrev pub most_ticks : ℕ
most_ticks = 1000000

pub record State (V : Type 0) : Type 0 where
  pub name : ℕ
  pub count : ℕ
  pub phase : Phase
  pub wires : List (Signal V)
  pub cells : List (Cell V)

-- a tick's token: the run's name, and its count of begun ticks
pub record Token : Type 0 where
  pub name : ℕ
  pub count : ℕ

-- an answer, and the state after the call
pub record Outcome (V A : Type 0) : Type 0 where
  pub answer : A
  pub state : State V

-- a refused call changes nothing
abbrev pub refused : {V A : Type 0} → State V → Fault → Outcome V (Result A Fault)
refused s f = record { answer = Err f; state = s }

abbrev pub accepted : {V A : Type 0} → A → State V → Outcome V (Result A Fault)
accepted x s = record { answer = Ok x; state = s }

-- New. The block's kind is known, and has as many ports as the block.
abbrev pub fits : Ports → Block → Bool
fits p b = p.inputs == length (ins b.inputs) && p.outputs == length (outs b.outputs)

abbrev pub kinds_fit : {V : Type 0} → Meaning V → ℕ → List Block → Result (Unit {0}) Fault
kinds_fit m k [] = Ok tt
kinds_fit m k (b ∷ bs) = cond (fits (m.ports b.kind) b) (kinds_fit m (k + 1) bs) (Err (fault KitDiffers k 0))

-- the tables: as many wires as the diagram has, as many cells as it has blocks
unfoldable pub lengths_fit : Drawing → ℕ → ℕ → Result (Unit {0}) Fault
lengths_fit d wires cells =
    cond (wires == d.wires) (cond (cells == length d.blocks) (Ok tt) (Err (fault TableLength (length d.blocks) cells))) (Err (fault TableLength d.wires wires))

-- the check: the wire table's length, the cell table's, then each block
unfoldable pub check_new : {V : Type 0} → Meaning V → Drawing → ℕ → ℕ → Result (Unit {0}) Fault
check_new m d wires cells =
    cond (wires == d.wires)
    (cond (cells == length d.blocks) (kinds_fit m 0 d.blocks) (Err (fault TableLength (length d.blocks) cells)))
    (Err (fault TableLength d.wires wires))

-- the first cells
abbrev pub starts : {V : Type 0} → Meaning V → List Block → List (Cell V)
starts m [] = []
starts m (b ∷ bs) = m.start b.kind b.parameter ∷ starts m bs

-- the making, which cannot refuse: of what the check refuses, a void run that touches no table
abbrev pub made_from : {V : Type 0} → Result (Unit {0}) Fault → Meaning V → Drawing → ℕ → List (Signal V) → List (Cell V) → State V
made_from (Ok u) m d name wires cells = record { name = name; count = 0; phase = Resting; wires = replicate d.wires Unknown; cells = starts m d.blocks }
made_from (Err f) m d name wires cells = record { name = name; count = 0; phase = Void f; wires = wires; cells = cells }

abbrev pub new_state : {V : Type 0} → Meaning V → Drawing → ℕ → List (Signal V) → List (Cell V) → State V
new_state m d name wires cells = made_from (check_new m d (length wires) (length cells)) m d name wires cells

-- Begin: every wire becomes unknown, the count rises by one, the phase is open.
abbrev pub begun : {V : Type 0} → State V → State V
begun s = record { name = s.name; count = s.count + 1; phase = Open; wires = replicate (length s.wires) Unknown; cells = s.cells }

abbrev pub begin_in : {V : Type 0} → Phase → State V → Outcome V (Result Token Fault)
begin_in Resting s = cond (nat_le most_ticks s.count) (refused s (fault NoTickLeft 0 0)) (accepted (record { name = s.name; count = s.count + 1 }) (begun s))
begin_in Open s = refused s (fault TickOpen 0 0)
begin_in (Void f) s = refused s f

unfoldable pub begin : {V : Type 0} → State V → Outcome V (Result Token Fault)
begin s = begin_in s.phase s

-- the state with other wires
abbrev pub with_wires : {V : Type 0} → State V → List (Signal V) → State V
with_wires s wires = record { name = s.name; count = s.count; phase = s.phase; wires = wires; cells = s.cells }

-- Supply: an unknown input wire becomes absent or present.
abbrev pub signal_of : {V : Type 0} → Given V → Signal V
signal_of GivenAbsent = Absent
signal_of (GivenPresent v) = Present v

-- the wire as it was decides
abbrev pub supply_known : {V : Type 0} → Signal V → State V → ℕ → Given V → Outcome V (Result (Unit {0}) Fault)
supply_known Unknown s w g = accepted tt (with_wires s (slice_set s.wires w (signal_of g)))
supply_known Absent s w g = refused s (fault AlreadyKnown w 0)
supply_known (Present v) s w g = refused s (fault AlreadyKnown w 0)

abbrev pub supply_in : {V : Type 0} → Phase → Drawing → State V → ℕ → Given V → Outcome V (Result (Unit {0}) Fault)
supply_in Resting d s w g = refused s (fault NoTickOpen 0 0)
supply_in Open d s w g = cond (nat_le d.inputs w) (refused s (fault NumberOutside w d.inputs)) (supply_known (at s.wires w) s w g)
supply_in (Void f) d s w g = refused s f

unfoldable pub supply : {V : Type 0} → Drawing → State V → ℕ → Given V → Outcome V (Result (Unit {0}) Fault)
supply d s w g = supply_in s.phase d s w g

-- Fire block k: how many wires became known.
abbrev pub fire_in : {V : Type 0} → Phase → Meaning V → Drawing → State V → ℕ → Outcome V (Result ℕ Fault)
fire_in Resting m d s k = refused s (fault NoTickOpen 0 0)
fire_in Open m d s k =
    let after = after_fire m s.wires (block_at d k) (cell_at s.cells k) in
    cond (nat_le (length d.blocks) k) (refused s (fault NumberOutside k (length d.blocks))) (accepted (known after - known s.wires) (with_wires s after))
fire_in (Void f) m d s k = refused s f

unfoldable pub fire : {V : Type 0} → Meaning V → Drawing → State V → ℕ → Outcome V (Result ℕ Fault)
fire m d s k = fire_in s.phase m d s k

-- Settle: rounds until one makes no wire known.
abbrev pub settle_in : {V : Type 0} → Phase → Meaning V → Drawing → State V → Outcome V (Result Settled Fault)
settle_in Resting m d s = refused s (fault NoTickOpen 0 0)
settle_in Open m d s = accepted (settle_answer m d s.cells s.wires) (with_wires s (settled m d s.cells s.wires).wires)
settle_in (Void f) m d s = refused s f

unfoldable pub settle : {V : Type 0} → Meaning V → Drawing → State V → Outcome V (Result Settled Fault)
settle m d s = settle_in s.phase m d s

-- Read one wire, resting or open.
abbrev pub read_in : {V : Type 0} → Phase → Drawing → State V → ℕ → Outcome V (Result (Signal V) Fault)
read_in Resting d s w = cond (nat_le d.wires w) (refused s (fault NumberOutside w d.wires)) (accepted (at s.wires w) s)
read_in Open d s w = cond (nat_le d.wires w) (refused s (fault NumberOutside w d.wires)) (accepted (at s.wires w) s)
read_in (Void f) d s w = refused s f

unfoldable pub read : {V : Type 0} → Drawing → State V → ℕ → Outcome V (Result (Signal V) Fault)
read d s w = read_in s.phase d s w

-- Close, with a token and keep or drop. The cells move only if the tick is kept and no wire is unknown.
abbrev pub next_cells : {V : Type 0} → Meaning V → List (Signal V) → List Block → List (Cell V) → List (Cell V)
next_cells m wires [] cells = cells
next_cells m wires (b ∷ bs) [] = []
next_cells m wires (b ∷ bs) (c ∷ cells) = next_cell m wires b c ∷ next_cells m wires bs cells

-- the lowest unknown wire: how many known ones stand before it
abbrev pub lowest_unknown : {V : Type 0} → List (Signal V) → ℕ
lowest_unknown [] = 0
lowest_unknown (Unknown ∷ wires) = 0
lowest_unknown (Absent ∷ wires) = suc (lowest_unknown wires)
lowest_unknown (Present v ∷ wires) = suc (lowest_unknown wires)

abbrev pub resting_with : {V : Type 0} → State V → List (Cell V) → State V
resting_with s cells = record { name = s.name; count = s.count; phase = Resting; wires = s.wires; cells = cells }

abbrev pub closed_by : {V : Type 0} → Intent → Meaning V → Drawing → State V → Outcome V (Result Closed Fault)
closed_by Keep m d s =
    cond (lowest_unknown s.wires == length s.wires)
    (accepted Kept (resting_with s (next_cells m s.wires d.blocks s.cells)))
    (accepted (Undetermined (lowest_unknown s.wires)) (resting_with s s.cells))
closed_by Drop m d s = accepted Dropped (resting_with s s.cells)

abbrev pub close_in : {V : Type 0} → Phase → Meaning V → Drawing → State V → Token → Intent → Outcome V (Result Closed Fault)
close_in Resting m d s t i = refused s (fault WrongToken 0 0)
close_in Open m d s t i = cond (t.name == s.name && t.count == s.count) (closed_by i m d s) (refused s (fault WrongToken 0 0))
close_in (Void f) m d s t i = refused s (fault WrongToken 0 0)

unfoldable pub close : {V : Type 0} → Meaning V → Drawing → State V → Token → Intent → Outcome V (Result Closed Fault)
close m d s t i = close_in s.phase m d s t i

-- The law over these definitions: a refused call changes no wire, cell, count or phase.
abbrev pub Unchanged : {V A : Type 0} → State V → Outcome V (Result A Fault) → Type 0
Unchanged s o = (f : Fault) → o.answer ≡ Err f → o.state ≡ s

pub record RefusedChangeNothing (V : Type 0) : Type 0 where
  pub of_begin : (s : State V) → Unchanged s (begin s)
  pub of_supply : (d : Drawing) (s : State V) (w : ℕ) (g : Given V) → Unchanged s (supply d s w g)
  pub of_fire : (m : Meaning V) (d : Drawing) (s : State V) (k : ℕ) → Unchanged s (fire m d s k)
  pub of_settle : (m : Meaning V) (d : Drawing) (s : State V) → Unchanged s (settle m d s)
  pub of_read : (d : Drawing) (s : State V) (w : ℕ) → Unchanged s (read d s w)
  pub of_close : (m : Meaning V) (d : Drawing) (s : State V) (t : Token) (i : Intent) → Unchanged s (close m d s t i)
