use Rattle.std.proofs.Common.{◌≡◌, ◌≤◌, min, drop}
use Rattle.std.specs.Str.Parse.{digits_value, digits_value_after}
use Rattle.std.specs.Str.{all_ascii_digits}
use Rattle.text.specs.Numerals.{beyond}
use Rattle.text.proofs.numerals.digits.Given as goal

-- what is left decides the form, and gives the number with what was read
abbrev pub invariant-loop-b : goal.invariant-loop-b
invariant-loop-b l = (l.n ≤ beyond) × (all_ascii_digits l.field ≡ all_ascii_digits (drop l.b-index l.field)) × (min (digits_value 10 l.field) beyond ≡ min (digits_value_after 10 l.n (drop l.b-index l.field)) beyond)
