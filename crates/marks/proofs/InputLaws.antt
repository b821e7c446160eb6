-- What a field supplies, test by test.
use Rattle.std.proofs.Common.{◌≡◌, ℕ, true, false, cond, List, ℤ, Some, None, Ok, codes, Option, Result, ap, ◌∙◌}
use Rattle.std.specs.Str.{bytes_eq}
use Rattle.std.proofs.lemmas.Bool.{cond-true, cond-false}
use Rattle.text.specs.declared.fault.Cause.{Cause}
use Rattle.text.specs.Numerals.{integer_in}
use Rattle.text.specs.Results.{then}
use Rattle.machine.specs.declared.answers.Given.{Given}
use Rattle.machine.specs.declared.answers.Given.TheVariants.{Absent as GivenAbsent}
use Rattle.marks.specs.Marks.{input_in, present}

module _ {V : Type 0} (valued : ℤ → Option V) (f : List ℕ) where
  abbrev numbers : Result (Option (Given V)) Cause
  numbers = then (integer_in f) (λ z. present (valued z))

  pub nothing_marked : bytes_eq f (codes "?") ≡ true → input_in valued f ≡ Ok None
  unfolding input_in
  nothing_marked h = cond-true (bytes_eq f (codes "?")) (Ok None) (cond (bytes_eq f (codes ".")) (Ok (Some GivenAbsent)) numbers) h

  other_mark : bytes_eq f (codes "?") ≡ false → input_in valued f ≡ cond (bytes_eq f (codes ".")) (Ok (Some GivenAbsent)) numbers
  unfolding input_in
  other_mark h = cond-false (bytes_eq f (codes "?")) (Ok None) (cond (bytes_eq f (codes ".")) (Ok (Some GivenAbsent)) numbers) h

  pub absent_marked : bytes_eq f (codes "?") ≡ false → bytes_eq f (codes ".") ≡ true → input_in valued f ≡ Ok (Some GivenAbsent)
  absent_marked h i = other_mark h ∙ cond-true (bytes_eq f (codes ".")) (Ok (Some GivenAbsent)) numbers i

  pub number_marked : bytes_eq f (codes "?") ≡ false → bytes_eq f (codes ".") ≡ false → (r : Result ℤ Cause) → integer_in f ≡ r → input_in valued f ≡ then r (λ z. present (valued z))
  number_marked h i r e = other_mark h ∙ cond-false (bytes_eq f (codes ".")) (Ok (Some GivenAbsent)) numbers i ∙ ap (λ x. then x (λ z. present (valued z))) e
