use Rattle.machine.proofs.Refusing.{refused_change_nothing}
use Rattle.machine.proofs.stands.refused_calls_change_nothing.Goals as goal

pub returns : goal.returns
returns g c = refused_change_nothing
