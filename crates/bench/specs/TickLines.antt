-- What a tick line supplies, or the fault that refuses it. Fields count from 1, the word included.
use Rattle.std.specs.Prelude.{◌≡◌, ℕ, zero, suc, ◌+◌, cond, List, [], ◌∷◌, length, ℤ, Ok, Err, codes, Option, Result, ◌==◌}
use Rattle.text.specs.declared.fault.Cause.TheVariants.{FieldCount}
use Rattle.text.specs.declared.fault.Fault.{Fault}
use Rattle.text.specs.Pieces.{field}
use Rattle.text.specs.Results.{then, mapped, placed, fault}
use Rattle.text.specs.Walk.{word_in}
use Rattle.machine.specs.declared.answers.Given.{Given}
use Rattle.marks.specs.Marks.{input_in}

-- n fields from field j + 1 on
unfoldable pub inputs_in : {V : Type 0} → (ℤ → Option V) → ℕ → ℕ → ℕ → List (List ℕ) → Result (List (Option (Given V))) Fault
inputs_in valued k j zero fs = Ok []
inputs_in valued k j (suc n) fs = then (placed k (j + 1) (input_in valued (field fs j))) (λ g. mapped (λ gs. g ∷ gs) (inputs_in valued k (j + 1) n fs))

-- line k of a list whose diagram has e inputs: its word, the number of fields, then the fields
unfoldable pub tick_line : {V : Type 0} → (ℤ → Option V) → ℕ → ℕ → List (List ℕ) → Result (List (Option (Given V))) Fault
tick_line valued k e fs =
    then (placed k 1 (word_in (codes "tick") (field fs 0))) (λ _.
    cond (length fs == e + 1) (inputs_in valued k 1 e fs) (Err (fault FieldCount k (length fs))))

-- the table holds what was read, if it was not refused
abbrev pub Into : {V : Type 0} → Result (List (Option (Given V))) Fault → List (Option (Given V)) → Type 0
Into {V} r table = (gs : List (Option (Given V))) → r ≡ Ok gs → table ≡ gs
