-- The switch kit: constant, and, or, not and adder, over yes and no.
use Rattle.std.specs.Prelude.{ℕ, zero, suc, ◌+◌, ◌%◌, Bool, true, false, cond, not, ◌||◌, List, [], ◌∷◌, ℤ, pos, negsuc, ◌==◌, nat_le, None}
use Rattle.kit.specs.declared.signal.Signal.{Signal}
use Rattle.kit.specs.declared.signal.Signal.TheVariants.{Unknown, Absent, Present}
use Rattle.kit.specs.declared.signal.Inputs.{Inputs}
use Rattle.kit.specs.declared.table.KindPorts.{KindPorts}
use Rattle.kit.specs.Meaning.{Meaning}
use Rattle.kit.specs.Strict.{strict, together}
use Rattle.kit.specs.Tables.{among, row, ports_in, unknown}

-- the signal is yes
abbrev pub is_yes : Signal Bool → Bool
is_yes Unknown = false
is_yes Absent = false
is_yes (Present v) = v

-- the signal is no
abbrev pub is_no : Signal Bool → Bool
is_no Unknown = false
is_no Absent = false
is_no (Present v) = not v

abbrev pub is_unknown : Signal Bool → Bool
is_unknown Unknown = true
is_unknown Absent = false
is_unknown (Present v) = false

-- how many of the three hold
abbrev pub how_many : Bool → Bool → Bool → ℕ
how_many x y z = cond x 1 0 + cond y 1 0 + cond z 1 0

-- what a parameter says: 0 is no, any other number is yes
abbrev pub says : ℤ → Bool
says (pos zero) = false
says (pos (suc n)) = true
says (negsuc n) = true

-- 64, constant: what the parameter says
abbrev pub switch_constant_fires : ℤ → Inputs Bool → Signal Bool
switch_constant_fires parameter i = Present (says parameter)

-- 65, and: no if either input is no; else as strict, yes
abbrev pub and_fires : Inputs Bool → Signal Bool
and_fires i = cond (is_no i.a || is_no i.b) (Present false) (strict (λ _. true) (together i.a i.b))

-- 66, or: yes if either input is yes; else as strict, no
abbrev pub or_fires : Inputs Bool → Signal Bool
or_fires i = cond (is_yes i.a || is_yes i.b) (Present true) (strict (λ _. false) (together i.a i.b))

-- 67, not. Strict: yes if a is no, no if a is yes
abbrev pub not_fires : Inputs Bool → Signal Bool
not_fires i = strict not i.a

-- 68, adder, port 0: yes if at least two inputs are yes, no if at least two are no, else unknown if any is unknown, else absent
abbrev pub carry : Signal Bool → Signal Bool → Signal Bool → Signal Bool
carry a b c =
    cond (nat_le 2 (how_many (is_yes a) (is_yes b) (is_yes c))) (Present true)
    (cond (nat_le 2 (how_many (is_no a) (is_no b) (is_no c))) (Present false)
    (cond (is_unknown a || is_unknown b || is_unknown c) Unknown Absent))

abbrev pub carry_fires : Inputs Bool → Signal Bool
carry_fires i = carry i.a i.b i.c

-- an odd number of the three values is yes
abbrev pub odd : Bool × (Bool × Bool) → Bool
odd v = how_many v.0 v.1.0 v.1.1 % 2 == 1

-- 68, adder, port 1. Strict: yes if an odd number of inputs is yes, else no
abbrev pub parity_fires : Inputs Bool → Signal Bool
parity_fires i = strict odd (together i.a (together i.b i.c))

abbrev pub switch_table : List KindPorts
switch_table = row 64 0 1 ∷ row 65 2 1 ∷ row 66 2 1 ∷ row 67 1 1 ∷ row 68 3 2 ∷ []

-- what each kind answers on port 0, from the inputs
abbrev pub switch_fires : ℤ → List (ℕ × (Inputs Bool → Signal Bool))
switch_fires parameter =
    (64, switch_constant_fires parameter)
    ∷ (65, and_fires)
    ∷ (66, or_fires)
    ∷ (67, not_fires)
    ∷ (68, carry_fires)
    ∷ []

-- the adder alone has a second output, port 1
abbrev pub second_fires : List (ℕ × (Inputs Bool → Signal Bool))
second_fires = (68, parity_fires) ∷ []

abbrev pub switch : Meaning Bool
switch = record {
  ports = ports_in switch_table;
  start = λ kind parameter. None;
  fire = λ kind parameter cell port. among ((0, among (switch_fires parameter) unknown kind) ∷ (1, among second_fires unknown kind) ∷ []) unknown port;
  next = λ kind parameter cell i. cell;
}
