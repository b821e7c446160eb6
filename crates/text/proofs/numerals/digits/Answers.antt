use Rattle.std.proofs.Common.{◌≡◌, ◌+◌, ◌*◌, min, ◌&&◌, get_or, drop, sym, ap, ◌∙◌, arith}
use Rattle.std.specs.Str.Parse.{digits_value_after}
use Rattle.std.specs.Char.{digit_value}
use Rattle.std.specs.Str.{all_ascii_digits}
use Rattle.std.proofs.lemmas.List.{at_drop_more}
use Rattle.std.proofs.lemmas.Str.{digit_value_digit}
use Rattle.text.specs.Numerals.{beyond}
use Rattle.text.proofs.Capped.{capped}
use Rattle.text.proofs.numerals.digits.Goals as goal

pub loop-b-preserved : goal.loop-b-preserved
loop-b-preserved c =
    let f = c.args.field.now in
    let i = c.loop-b.b-index in
    let rest = drop (i + 1) f in
    let m = c.loop-b.n * 10 + digit_value (get_or f i 0) in
    let digit = c.if-not-is_ascii_digit.ensures in
    let value_is = digit_value_digit (get_or f i 0) digit.cases in
    let n_is : c.min-n.result ≡ min m beyond = omega (arith, c.min-n.ensures) in (
      omega (arith, n_is),
      c.loop-b.invariant.1 ∙ at_drop_more all_ascii_digits f i 0 c.loop-b-test.true ∙ ap (λ b. b && all_ascii_digits rest) (sym digit.value),
      c.loop-b.invariant.2 ∙ at_drop_more (λ ds. min (digits_value_after 10 c.loop-b.n ds) beyond) f i 0 c.loop-b-test.true ∙ sym (capped rest m beyond) ∙ ap (λ n. min (digits_value_after 10 n rest) beyond) (sym n_is),
    )
