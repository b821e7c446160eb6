-- Marks and reports.
use Rattle.std.specs.Prelude.{ℕ, cond, List, ◌++◌, ℤ, Some, None, Ok, Err, codes, decimal, Option, Result}
use Rattle.std.specs.List.{flat_map}
use Rattle.std.specs.Fmt.{signed_decimal}
use Rattle.std.specs.Str.{bytes_eq}
use Rattle.text.specs.declared.fault.Cause.{Cause}
use Rattle.text.specs.declared.fault.Cause.TheVariants.{Range}
use Rattle.text.specs.Numerals.{integer_in}
use Rattle.text.specs.Results.{then}
use Rattle.kit.specs.declared.signal.Signal.{Signal}
use Rattle.kit.specs.declared.signal.Signal.TheVariants.{Unknown, Absent, Present}
use Rattle.machine.specs.declared.answers.Given.{Given}
use Rattle.machine.specs.declared.answers.Given.TheVariants.{Absent as GivenAbsent, Present as GivenPresent}
use Rattle.machine.specs.declared.answers.Closed.{Closed}
use Rattle.machine.specs.declared.answers.Closed.TheVariants.{Kept, Undetermined, Dropped}

-- a number that stands for no value is outside the range
abbrev pub present : {V : Type 0} → Option V → Result (Option (Given V)) Cause
present (Some v) = Ok (Some (GivenPresent v))
present None = Err Range

-- what a field supplies: `?` nothing, `.` absent, a number the value that it stands for
unfoldable pub input_in : {V : Type 0} → (ℤ → Option V) → List ℕ → Result (Option (Given V)) Cause
input_in valued f =
    cond (bytes_eq f (codes "?")) (Ok None)
    (cond (bytes_eq f (codes ".")) (Ok (Some GivenAbsent))
    (then (integer_in f) (λ z. present (valued z))))

-- a signal as it is printed
abbrev pub shown_mark : {V : Type 0} → (V → ℤ) → Signal V → List ℕ
shown_mark numbered Unknown = codes "?"
shown_mark numbered Absent = codes "."
shown_mark numbered (Present v) = signed_decimal (numbered v)

abbrev pub shown_closed : Closed → List ℕ
shown_closed Kept = codes "kept"
shown_closed (Undetermined w) = codes "undetermined"
shown_closed Dropped = codes "dropped"

-- each wire after a comma
abbrev pub shown_wires : {V : Type 0} → (V → ℤ) → List (Signal V) → List ℕ
shown_wires numbered wires = flat_map (λ s. codes "," ++ shown_mark numbered s) wires

abbrev pub shown_report : {V : Type 0} → (V → ℤ) → Closed → ℕ → List (Signal V) → List ℕ
shown_report numbered closed rounds wires = shown_closed closed ++ (codes "," ++ (decimal rounds ++ shown_wires numbered wires))
