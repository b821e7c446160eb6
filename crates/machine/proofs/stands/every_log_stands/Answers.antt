use Rattle.machine.proofs.Standing.{every_log_stands}
use Rattle.machine.proofs.stands.every_log_stands.Goals as goal

pub returns : goal.returns
returns g c = every_log_stands
