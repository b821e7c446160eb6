use Rattle.machine.proofs.Ticks.{still_own, alike_settle}
use Rattle.run_cases.proofs.Steps.{own_begun, alike_left}
use Rattle.run_cases.proofs.offering.opened.Goals as goal

pub returns : goal.returns
returns g c =
    let begun = c.in_ok-token.ensures in
    still_own _ (own_begun _ _ _ begun.answer begun.state) (alike_left c.settle.ensures.state (alike_settle _ _ _))
