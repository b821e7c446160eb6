use Rattle.run_cases.proofs.Steps.{own_begun, close_runs}
use Rattle.run_cases.proofs.playing.pass.Goals as goal

pub unwrap-requires : goal.unwrap-requires
unwrap-requires g c = let begun = c.in_ok-token.ensures in close_runs _ _ _ _ _ _ c.close.ensures.answer (own_begun _ _ _ begun.answer begun.state)
