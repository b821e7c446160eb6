-- Tables by number.
use Rattle.std.specs.Prelude.{ℕ, cond, List, [], ◌∷◌, ◌==◌}
use Rattle.kit.specs.declared.signal.Signal.{Signal}
use Rattle.kit.specs.declared.signal.Signal.TheVariants.{Unknown}
use Rattle.kit.specs.declared.signal.Inputs.{Inputs}
use Rattle.kit.specs.declared.question.Ports.{Ports}
use Rattle.kit.specs.declared.table.KindPorts.{KindPorts}

-- the answer listed under this number, or else the other one
abbrev pub among : {A : Type 0} → List (ℕ × A) → A → ℕ → A
among [] other n = other
among (entry ∷ rest) other n = cond (n == entry.0) entry.1 (among rest other n)

-- the answer for a kind or a port that there is not
abbrev pub unknown : {V : Type 0} → Inputs V → Signal V
unknown i = Unknown

-- a row of a kit's table: a kind with its numbers of inputs and outputs
abbrev pub row : ℕ → ℕ → ℕ → KindPorts
row kind inputs outputs = record { kind = kind; inputs = inputs; outputs = outputs }

abbrev pub no_ports : Ports
no_ports = record { inputs = 0; outputs = 0 }

-- the port counts that a table has for a kind, none where it lacks the kind
abbrev pub ports_in : List KindPorts → ℕ → Ports
ports_in [] kind = no_ports
ports_in (r ∷ rows) kind = cond (kind == r.kind) (record { inputs = r.inputs; outputs = r.outputs }) (ports_in rows kind)
