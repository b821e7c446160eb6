-- Logs and replays, and what every log keeps.
use Rattle.std.specs.Prelude.{◌≡◌, ℕ, ◌+◌, ◌*◌, ◌<◌, ◌≤◌, Bool, true, false, List, [], ◌∷◌, length, replicate, Ok, Err, Result, slice_set}
use Rattle.text.specs.declared.fault.Fault.{Fault}
use Rattle.kit.specs.declared.signal.Signal.{Signal}
use Rattle.kit.specs.declared.signal.Signal.TheVariants.{Unknown}
use Rattle.kit.specs.Cells.{Cell}
use Rattle.kit.specs.Meaning.{Meaning, Lawful}
use Rattle.kit.specs.Order.{◌⊑◌}
use Rattle.draft.specs.Drawings.{Drawing}
use Rattle.diagram.specs.Reading.{IsDiagram}
use Rattle.machine.specs.declared.answers.Given.{Given}
use Rattle.machine.specs.declared.answers.Intent.{Intent}
use Rattle.machine.specs.declared.answers.Settled.{Settled}
use Rattle.machine.specs.declared.answers.Closed.{Closed}
use Rattle.machine.specs.declared.answers.Closed.TheVariants.{Kept, Undetermined, Dropped}
use Rattle.machine.specs.Machine.{State, Token, check_new, new_state, starts, begin, supply, fire, settle, read, close, signal_of}
use Rattle.machine.specs.Solutions.{Least, OneLeast}
use Rattle.machine.specs.Tables.{at, cell_at, block_at, next_cell}

-- an entry of a log: a call with its arguments, and its answer
pub data Entry (V : Type 0) : Type 0 where
  begins : Result Token Fault → Entry V
  supplies : ℕ → Given V → Result (Unit {0}) Fault → Entry V
  fires : ℕ → Result ℕ Fault → Entry V
  settles : Result Settled Fault → Entry V
  reads : ℕ → Result (Signal V) Fault → Entry V
  closes : Token → Intent → Result Closed Fault → Entry V

-- From the state that new makes, the log led to this state. The newest entry comes first.
pub data Led {V : Type 0} (m : Meaning V) (d : Drawing) (new : State V) : List (Entry V) → State V → Type 0 where
  nothing_yet : Led m d new [] new
  begin_next : {log : List (Entry V)} {s : State V} → Led m d new log s → Led m d new (begins (begin s).answer ∷ log) (begin s).state
  supply_next : {log : List (Entry V)} {s : State V} → Led m d new log s → (w : ℕ) (g : Given V) → Led m d new (supplies w g (supply d s w g).answer ∷ log) (supply d s w g).state
  fire_next : {log : List (Entry V)} {s : State V} → Led m d new log s → (k : ℕ) → Led m d new (fires k (fire m d s k).answer ∷ log) (fire m d s k).state
  settle_next : {log : List (Entry V)} {s : State V} → Led m d new log s → Led m d new (settles (settle m d s).answer ∷ log) (settle m d s).state
  read_next : {log : List (Entry V)} {s : State V} → Led m d new log s → (w : ℕ) → Led m d new (reads w (read d s w).answer ∷ log) (read d s w).state
  close_next : {log : List (Entry V)} {s : State V} → Led m d new log s → (t : Token) (i : Intent) → Led m d new (closes t i (close m d s t i).answer ∷ log) (close m d s t i).state

-- A replay is fed the log's calls with their arguments and answers, and nothing of the run's tables.
pub record Replay (V : Type 0) : Type 0 where
  pub cells : List (Cell V)
  pub tick_cells : List (Cell V)
  pub inputs : List (Signal V)

-- at new: the starts, and no input supplied
abbrev pub replay_new : {V : Type 0} → Meaning V → Drawing → Replay V
replay_new m d = record { cells = starts m d.blocks; tick_cells = starts m d.blocks; inputs = replicate d.inputs Unknown }

-- each cell becomes its next on these wires
pub record Moved {V : Type 0} (m : Meaning V) (d : Drawing) (wires : List (Signal V)) (cells cells' : List (Cell V)) : Type 0 where
  pub as_many : length cells' ≡ length cells
  pub each : (k : ℕ) → k < length d.blocks → cell_at cells' k ≡ next_cell m wires (block_at d k) (cell_at cells k)

-- One entry: r becomes r'.
abbrev pub ReplaysEntry : {V : Type 0} → Meaning V → Drawing → Entry V → Replay V → Replay V → Type 0
-- a begin: the tick cells become what the cells are, and no input is supplied
ReplaysEntry m d (begins (Ok t)) r r' = r' ≡ record { cells = r.cells; tick_cells = r.cells; inputs = replicate d.inputs Unknown }
-- a supply: the input takes its signal
ReplaysEntry m d (supplies w g (Ok u)) r r' = r' ≡ record { cells = r.cells; tick_cells = r.tick_cells; inputs = slice_set r.inputs w (signal_of g) }
-- a kept tick: each cell becomes its next on the least solution for the tick cells and inputs
ReplaysEntry {V} m d (closes t i (Ok Kept)) r r' =
    (r'.tick_cells ≡ r.tick_cells) × (r'.inputs ≡ r.inputs) × ((s : List (Signal V)) → Least m d r.tick_cells r.inputs s → Moved m d s r.cells r'.cells)
-- every other answer or call, each refused one too: nothing changes
ReplaysEntry m d (begins (Err f)) r r' = r' ≡ r
ReplaysEntry m d (supplies w g (Err f)) r r' = r' ≡ r
ReplaysEntry m d (fires k a) r r' = r' ≡ r
ReplaysEntry m d (settles a) r r' = r' ≡ r
ReplaysEntry m d (reads w a) r r' = r' ≡ r
ReplaysEntry m d (closes t i (Ok (Undetermined w))) r r' = r' ≡ r
ReplaysEntry m d (closes t i (Ok Dropped)) r r' = r' ≡ r
ReplaysEntry m d (closes t i (Err f)) r r' = r' ≡ r

-- the whole log, from new
abbrev pub Replays : {V : Type 0} → Meaning V → Drawing → List (Entry V) → Replay V → Type 0
Replays m d [] r = r ≡ replay_new m d
Replays {V} m d (e ∷ log) r = (before : Replay V) × Replays m d log before × ReplaysEntry m d e before r

-- whether a settle was accepted, and no supply or begin after it
abbrev pub settled_last : {V : Type 0} → List (Entry V) → Bool
settled_last [] = false
settled_last (begins (Ok t) ∷ log) = false
settled_last (begins (Err f) ∷ log) = settled_last log
settled_last (supplies w g (Ok u) ∷ log) = false
settled_last (supplies w g (Err f) ∷ log) = settled_last log
settled_last (fires k a ∷ log) = settled_last log
settled_last (settles (Ok s) ∷ log) = true
settled_last (settles (Err f) ∷ log) = settled_last log
settled_last (reads w a ∷ log) = settled_last log
settled_last (closes t i a ∷ log) = settled_last log

-- each accepted settle answered rounds times blocks for its firings, and at most one round more than wires made known
abbrev pub Counted : {V : Type 0} → Drawing → List (Entry V) → Type 0
Counted d [] = Unit {0}
Counted d (begins a ∷ log) = Counted d log
Counted d (supplies w g a ∷ log) = Counted d log
Counted d (fires k a ∷ log) = Counted d log
Counted d (settles (Ok s) ∷ log) = (s.firings ≡ s.rounds * length d.blocks) × (s.rounds ≤ s.known + 1) × Counted d log
Counted d (settles (Err f) ∷ log) = Counted d log
Counted d (reads w a ∷ log) = Counted d log
Counted d (closes t i a ∷ log) = Counted d log

-- What a log says of the state that it led to.
pub record Stands {V : Type 0} (m : Meaning V) (d : Drawing) (log : List (Entry V)) (s : State V) : Type 0 where
  -- there is exactly one replay of it
  pub replay : Replay V
  pub replays : Replays m d log replay
  pub no_other : (r : Replay V) → Replays m d log r → r ≡ replay
  -- and exactly one least solution for its tick cells and inputs
  pub least : OneLeast m d replay.tick_cells replay.inputs
  -- every wire is unknown or holds what the least solution gives
  pub wires : (w : ℕ) → at s.wires w ⊑ at least.wires w
  -- and exactly that after a settle
  pub settled : settled_last log ≡ true → s.wires ≡ least.wires
  -- firings and rounds
  pub counted : Counted d log
  -- the cells are what the kept ticks alone give
  pub cells : s.cells ≡ replay.cells

-- Every log stands: over every meaning that keeps both laws, every diagram that new accepts with it, every name and
-- every list of calls with the machine's answers.
abbrev pub EveryLogStands : Type 0 → Type 0
EveryLogStands V =
    (m : Meaning V) → Lawful m → (d : Drawing) → IsDiagram d → (name : ℕ) (wires : List (Signal V)) (cells : List (Cell V)) → check_new m d (length wires) (length cells) ≡ Ok tt
    → (log : List (Entry V)) (s : State V) → Led m d (new_state m d name wires cells) log s → Stands m d log s

-- What a call promises of every log before it, where e is its entry and s becomes s': a log that led from new to s leads
-- with e to s', and stands.
unfoldable pub StandsAfter : {V : Type 0} → Meaning V → Drawing → State V → Entry V → State V → Type 0
StandsAfter {V} m d s e s' =
    (name : ℕ) (wires : List (Signal V)) (cells : List (Cell V)) → check_new m d (length wires) (length cells) ≡ Ok tt
    → (log : List (Entry V)) → Led m d (new_state m d name wires cells) log s
    → Led m d (new_state m d name wires cells) (e ∷ log) s' × Stands m d (e ∷ log) s'

-- the same with every kit that keeps both laws, for a call that asks none
abbrev pub StandsWithEvery : {V : Type 0} → Drawing → State V → Entry V → State V → Type 0
StandsWithEvery {V} d s e s' = (m : Meaning V) → Lawful m → StandsAfter m d s e s'
