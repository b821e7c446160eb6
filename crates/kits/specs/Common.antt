-- The common kit: delay and default, for every type of value.
use Rattle.std.specs.Prelude.{ℕ, List, [], ◌∷◌, None}
use Rattle.kit.specs.declared.signal.Signal.{Signal}
use Rattle.kit.specs.declared.signal.Signal.TheVariants.{Unknown, Absent, Present}
use Rattle.kit.specs.Cells.{Cell}
use Rattle.kit.specs.declared.signal.Inputs.{Inputs}
use Rattle.kit.specs.declared.table.KindPorts.{KindPorts}
use Rattle.kit.specs.Cells.{shown, taking}
use Rattle.kit.specs.Meaning.{Meaning}
use Rattle.kit.specs.Tables.{among, row, ports_in, unknown}

-- 1, delay: the cell (empty is absent), whatever a is
abbrev pub delay_fires : {V : Type 0} → Cell V → Inputs V → Signal V
delay_fires cell i = shown cell

-- next is a (absent is empty); an unknown a leaves the cell
abbrev pub delay_next : {V : Type 0} → Cell V → Inputs V → Cell V
delay_next cell i = taking cell i.a

-- 3, default: a if it is present or unknown, b if a is absent
abbrev pub default : {V : Type 0} → Signal V → Signal V → Signal V
default Unknown b = Unknown
default Absent b = b
default (Present v) b = Present v

abbrev pub default_fires : {V : Type 0} → Inputs V → Signal V
default_fires i = default i.a i.b

abbrev pub common_table : List KindPorts
common_table = row 1 1 1 ∷ row 3 2 1 ∷ []

-- what each kind answers, from the inputs
abbrev pub common_fires : {V : Type 0} → Cell V → List (ℕ × (Inputs V → Signal V))
common_fires cell = (1, delay_fires cell) ∷ (3, default_fires) ∷ []

-- every kind has one output, port 0
abbrev pub common : {V : Type 0} → Meaning V
common = record {
  ports = ports_in common_table;
  start = λ kind parameter. None;
  fire = λ kind parameter cell port. among ((0, among (common_fires cell) unknown kind) ∷ []) unknown port;
  next = λ kind parameter cell i. among ((1, delay_next cell i) ∷ []) cell kind;
}
