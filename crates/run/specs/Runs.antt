-- A run as a state of the machine.
use Rattle.std.specs.Prelude.{◌≡◌, Ok, Err, Result}
use Rattle.text.specs.declared.fault.Fault.{Fault}
use Rattle.machine.specs.declared.answers.Closed.{Closed}
use Rattle.draft.specs.Drawings.{Drawing}
use Rattle.diagram.specs.Diagrams.{drawing}
use Rattle.machine.specs.Machine.{State, Token}
use Rattle.run.specs.declared.run.Run.{Run}
use Rattle.run.specs.declared.token.TickToken.{TickToken}
use Rattle.run.specs.declared.token.CloseRefused.{CloseRefused}

abbrev pub state_of : {V : Type 0} → Run V → State V
state_of r = record { name = r.tick.name; count = r.tick.count; phase = r.phase; wires = r.wires.now; cells = r.cells.now }

abbrev pub drawing_of_run : {V : Type 0} → Run V → Drawing
drawing_of_run r = drawing r.diagram.now

abbrev pub token_of : TickToken → Token
token_of t = record { name = t.tick.name; count = t.tick.count }

-- what a close answers, without the token
abbrev pub close_answer : Result Closed CloseRefused → Result Closed Fault
close_answer (Ok c) = Ok c
close_answer (Err r) = Err r.fault

-- a refused close hands the same token back
abbrev pub HandsBack : TickToken → Result Closed CloseRefused → Type 0
HandsBack t (Ok c) = Unit {0}
HandsBack t (Err r) = r.token ≡ t
