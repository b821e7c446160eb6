-- A list of ticks: the text of a diagram, then tick lines.
use Rattle.std.specs.Prelude.{ℕ, ◌+◌, cond, List, [], ◌∷◌, ◌++◌, length, take, drop, replicate, ℤ, Some, None, Ok, Err, codes, Option, Result, ◌==◌, nat_le}
use Rattle.std.specs.List.{flat_map}
use Rattle.text.specs.declared.fault.Cause.TheVariants.{FieldCount, LongInput}
use Rattle.text.specs.declared.fault.Fault.{Fault}
use Rattle.text.specs.Faults.{shown_fault}
use Rattle.text.specs.LineWalk.{first_is}
use Rattle.text.specs.Pieces.{pieces, fields_of}
use Rattle.text.specs.Results.{fault}
use Rattle.kit.specs.declared.signal.Signal.{Signal}
use Rattle.kit.specs.declared.signal.Signal.TheVariants.{Unknown}
use Rattle.kit.specs.Cells.{Cell}
use Rattle.kit.specs.Meaning.{Meaning}
use Rattle.draft.specs.Drawings.{Drawing}
use Rattle.diagram.specs.Reading.{read_of}
use Rattle.machine.specs.declared.answers.Closed.{Closed}
use Rattle.machine.specs.declared.answers.Given.{Given}
use Rattle.machine.specs.declared.answers.Intent.TheVariants.{Keep}
use Rattle.machine.specs.Machine.{State, Outcome, refused, check_new, new_state}
use Rattle.profile.specs.Opening.{most_bytes}
use Rattle.marks.specs.Marks.{shown_report}
use Rattle.bench.specs.TickLines.{tick_line}
use Rattle.tick.specs.declared.played.Played.{Played}
use Rattle.tick.specs.Ticks.{played}

-- A list is cut before its first tick line. The pieces of the input at its line feeds are its lines, and last what has
-- no line feed; so many bytes come before the first of them whose first field is `tick`.
unfoldable pub before_ticks : List (List ℕ) → ℕ
before_ticks [] = 0
before_ticks (p ∷ []) = cond (first_is (codes "tick") p) 0 (length p)
before_ticks (p ∷ q ∷ ps) = cond (first_is (codes "tick") p) 0 (length p + 1 + before_ticks (q ∷ ps))

abbrev pub cut_at : List ℕ → ℕ
cut_at input = before_ticks (pieces 10 input)

abbrev pub diagram_text : List ℕ → List ℕ
diagram_text input = take (cut_at input) input

-- the tick lines, and the number of the first of them, counted from the first line of the input
abbrev pub tick_lines : List ℕ → List (List ℕ)
tick_lines input = pieces 10 (drop (cut_at input) input)

abbrev pub first_tick : List ℕ → ℕ
first_tick input = length (pieces 10 (diagram_text input))

-- what a tick shows
pub record Shown (V : Type 0) : Type 0 where
  pub closed : Closed
  pub rounds : ℕ
  pub wires : List (Signal V)

-- the ticks that were played, and the refusal that ended the list, if one did
pub record Listed (V : Type 0) : Type 0 where
  pub shown : List (Shown V)
  pub refusal : Option Fault

abbrev pub ends : {V : Type 0} → Listed V
ends = record { shown = []; refusal = None }

abbrev pub refused_by : {V : Type 0} → Fault → Listed V
refused_by f = record { shown = []; refusal = Some f }

abbrev pub shows : {V : Type 0} → Shown V → Listed V → Listed V
shows x l = record { shown = x ∷ l.shown; refusal = l.refusal }

-- a tick line, from what it supplies: a run in state s plays it, and keeps it if it is determined
abbrev pub supplied_tick : {V : Type 0} → Meaning V → Drawing → State V → Result (List (Option (Given V))) Fault → Outcome V (Result Played Fault)
supplied_tick m d s (Ok gs) = played m d s gs Keep
supplied_tick m d s (Err f) = refused s f

-- line k
abbrev pub line_played : {V : Type 0} → (ℤ → Option V) → Meaning V → Drawing → State V → ℕ → List ℕ → Outcome V (Result Played Fault)
line_played valued m d s k line = supplied_tick m d s (tick_line valued k d.inputs (fields_of line))

-- a tick and what follows it, from what it answered and the wires that it left
abbrev pub after_tick : {V : Type 0} → Result Played Fault → List (Signal V) → Listed V → Listed V
after_tick (Ok p) wires rest = shows (record { closed = p.closed; rounds = p.settled.rounds; wires = wires }) rest
after_tick (Err f) wires rest = refused_by f

-- the tick lines from line k on, played by a run in state s
unfoldable pub ticks_of : {V : Type 0} → (ℤ → Option V) → Meaning V → Drawing → State V → ℕ → List (List ℕ) → Listed V
ticks_of valued m d s k [] = ends
ticks_of valued m d s k (rest ∷ []) = cond (length rest == 0) ends (refused_by (fault FieldCount k 0))
ticks_of valued m d s k (line ∷ next ∷ more) = let o = line_played valued m d s k line in after_tick o.answer o.state.wires (ticks_of valued m d o.state (k + 1) (next ∷ more))

-- the tables that a bench lends to its run
abbrev pub lent_wires : {V : Type 0} → Drawing → List (Signal V)
lent_wires d = replicate d.wires Unknown

abbrev pub lent_cells : {V : Type 0} → Drawing → List (Cell V)
lent_cells d = replicate (length d.blocks) None

-- the run is made before a tick line is looked at
abbrev pub made : {V : Type 0} → (ℤ → Option V) → Meaning V → Drawing → ℕ → List (List ℕ) → Result (Unit {0}) Fault → Listed V
made valued m d k lines (Ok u) = ticks_of valued m d (new_state m d 0 (lent_wires d) (lent_cells d)) k lines
made valued m d k lines (Err f) = refused_by f

unfoldable pub run_of : {V : Type 0} → (ℤ → Option V) → Meaning V → Drawing → ℕ → List (List ℕ) → Listed V
run_of {V} valued m d k lines = made valued m d k lines (check_new m d (length (lent_wires {V = V} d)) (length (lent_cells {V = V} d)))

-- the diagram of an input that is not too long, whose text has n bytes
abbrev pub drawn : List ℕ → ℕ → Result Drawing Fault
drawn input n = cond (nat_le (length input) most_bytes) (read_of (take n input)) (Err (fault LongInput 0 0))

-- what a list gives: its diagram is read first of all
abbrev pub opened : {V : Type 0} → (ℤ → Option V) → Meaning V → List ℕ → Result Drawing Fault → Listed V
opened valued m input (Ok d) = run_of valued m d (first_tick input) (tick_lines input)
opened valued m input (Err f) = refused_by f

unfoldable pub listed : {V : Type 0} → (ℤ → Option V) → Meaning V → List ℕ → Listed V
listed valued m input = opened valued m input (drawn input (cut_at input))

-- as it is printed: a line for each tick, then the refusal
abbrev pub shown_line : {V : Type 0} → (V → ℤ) → Shown V → List ℕ
shown_line numbered x = shown_report numbered x.closed x.rounds x.wires ++ 10 ∷ []

abbrev pub refusal_line : Option Fault → List ℕ
refusal_line None = []
refusal_line (Some f) = shown_fault f ++ 10 ∷ []

abbrev pub printed : {V : Type 0} → (V → ℤ) → Listed V → List ℕ
printed numbered l = flat_map (shown_line numbered) l.shown ++ refusal_line l.refusal
