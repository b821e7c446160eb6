use Rattle.machine.proofs.Standing.{one_least_solution}
use Rattle.machine.proofs.stands.there_is_one_least_solution.Goals as goal

pub returns : goal.returns
returns g c = one_least_solution
