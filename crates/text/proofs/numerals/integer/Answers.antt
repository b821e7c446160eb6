use Rattle.std.proofs.Common.{arith}
use Rattle.std.proofs.lemmas.Grind.{common_steps}
use Rattle.text.specs.Numerals.{integer_in, number_in}
use Rattle.text.proofs.NumberLaws.{exact_integer}
use Rattle.text.proofs.numerals.integer.Goals as goal

pub returns-in-45-clause-exact : goal.returns-in-45-clause-exact
unfolding integer_in number_in
returns-in-45-clause-exact c = exact_integer c.args.field.now _ (grind (arith, common_steps))
