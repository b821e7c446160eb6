use Rattle.std.proofs.Common.{arith, rules}
use Rattle.text.specs.Numerals.{number_in}
use Rattle.text.proofs.NumberLaws.{exact_number}
use Rattle.text.proofs.numerals.number.Goals as goal

pub returns-then-n-from-clause-exact : goal.returns-then-n-from-clause-exact
unfolding number_in
returns-then-n-from-clause-exact c = exact_number c.args.most c.args.field.now _ (omega arith) (search rules)
