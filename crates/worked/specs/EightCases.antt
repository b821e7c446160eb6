-- The eight cases.
use Rattle.std.specs.Prelude.{◌≡◌, ℕ, Bool, true, false, List, [], ◌∷◌, length, ℤ, pos, negsuc, Ok, Result, None}
use Rattle.text.specs.declared.fault.Fault.{Fault}
use Rattle.kit.specs.declared.signal.Signal.{Signal}
use Rattle.kit.specs.declared.signal.Signal.TheVariants.{Unknown, Absent, Present}
use Rattle.kit.specs.Cells.{Cell}
use Rattle.kits.specs.Benches.{number_bench, switch_bench}
use Rattle.draft.specs.declared.block.InPorts.TheVariants.{Two as TwoIn}
use Rattle.draft.specs.declared.block.OutPorts.TheVariants.{One as OneOut}
use Rattle.draft.specs.Drawings.{Drawing}
use Rattle.diagram.specs.Reading.{IsDiagram}
use Rattle.machine.specs.declared.answers.Given.TheVariants.{Present as GivenPresent}
use Rattle.machine.specs.declared.answers.Settled.{Settled}
use Rattle.machine.specs.Machine.{State, Outcome, check_new, new_state, begin, supply, settle}

-- the kinds that the cases ask
abbrev pub default_kind : ℕ
default_kind = 3

abbrev pub sum_kind : ℕ
sum_kind = 17

abbrev pub mean_kind : ℕ
mean_kind = 19

abbrev pub and_kind : ℕ
and_kind = 65

abbrev pub or_kind : ℕ
or_kind = 66

abbrev pub adder_kind : ℕ
adder_kind = 68

-- what a block of this kind answers to two numbers
abbrev pub of_two : ℕ → Signal ℤ → Signal ℤ → Signal ℤ
of_two kind a b = number_bench.fire kind (pos 0) None 0 (record { a = a; b = b; c = Absent })

-- what an adder answers on a port
abbrev pub adds : ℕ → Signal Bool → Signal Bool → Signal Bool → Signal Bool
adds port a b c = switch_bench.fire adder_kind (pos 0) None port (record { a = a; b = b; c = c })

-- one input wire, and a block that reads it and its own output
abbrev pub loop_of : ℕ → Drawing
loop_of kind = record { inputs = 1; wires = 2; blocks = record { kind = kind; parameter = pos 0; inputs = TwoIn 0 1; outputs = OneOut 1 } ∷ [] }

-- a run of it is made, a tick begun, yes supplied, and settled
abbrev pub wires_lent : List (Signal Bool)
wires_lent = Unknown ∷ Unknown ∷ []

abbrev pub cells_lent : List (Cell Bool)
cells_lent = None ∷ []

abbrev pub supplied_yes : ℕ → State Bool
supplied_yes kind = (supply (loop_of kind) (begin (new_state switch_bench (loop_of kind) 0 wires_lent cells_lent)).state 0 (GivenPresent true)).state

abbrev pub settles_loop : ℕ → Outcome Bool (Result Settled Fault)
settles_loop kind = settle switch_bench (loop_of kind) (supplied_yes kind)

-- a loop that settles as told, and that a run takes
pub record Loop (kind : ℕ) (told : Settled) (left : List (Signal Bool)) : Type 0 where
  pub drawn : IsDiagram (loop_of kind)
  pub taken : check_new switch_bench (loop_of kind) (length wires_lent) (length cells_lent) ≡ Ok tt
  pub answer : (settles_loop kind).answer ≡ Ok told
  pub wires : (settles_loop kind).state.wires ≡ left

pub record EightCases : Type 0 where
  -- the mean of -3 and 0 is -2
  pub mean_below_zero : of_two mean_kind (Present (negsuc 2)) (Present (pos 0)) ≡ Present (negsuc 1)
  -- a sum is held at the end of its range
  pub sum_held : of_two sum_kind (Present (pos 2147483647)) (Present (pos 1)) ≡ Present (pos 2147483647)
  -- default waits while a is unknown
  pub default_waits : of_two default_kind Unknown (Present (pos 5)) ≡ Unknown
  pub default_taken : of_two default_kind Absent (Present (pos 5)) ≡ Present (pos 5)
  -- of yes, no and unknown an adder knows nothing
  pub adder_waits : (adds 0 (Present true) (Present false) Unknown ≡ Unknown) × (adds 1 (Present true) (Present false) Unknown ≡ Unknown)
  -- of yes, yes and unknown it knows the carry
  pub adder_carries : (adds 0 (Present true) (Present true) Unknown ≡ Present true) × (adds 1 (Present true) (Present true) Unknown ≡ Unknown)
  -- an or that reads its own output: yes in 2 rounds
  pub or_loop : Loop or_kind (record { rounds = 2; firings = 2; known = 1; unknown = 0 }) (Present true ∷ Present true ∷ [])
  -- an and in its place: unknown after 1
  pub and_loop : Loop and_kind (record { rounds = 1; firings = 1; known = 0; unknown = 1 }) (Present true ∷ Unknown ∷ [])
