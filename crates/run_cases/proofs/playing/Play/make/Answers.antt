use Rattle.machine.proofs.Ticks.{alike_supply, alike_fire, alike_settle}
use Rattle.run_cases.proofs.Steps.{alike_left}
use Rattle.run_cases.proofs.playing.Play.make.Goals as goal

pub returns-in-Supply-clause-run : goal.returns-in-Supply-clause-run
returns-in-Supply-clause-run g c = alike_left c.supply.ensures.state (alike_supply _ _ _ _)

pub returns-in-Fire-clause-run : goal.returns-in-Fire-clause-run
returns-in-Fire-clause-run g c = alike_left c.fire.ensures.state (alike_fire _ _ _ _)

pub returns-in-Settle-clause-run : goal.returns-in-Settle-clause-run
returns-in-Settle-clause-run g c = alike_left c.settle.ensures.state (alike_settle _ _ _)
