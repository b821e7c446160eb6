use Rattle.machine.proofs.Ticks.{still_own}
use Rattle.run_cases.proofs.Steps.{own_begun, close_runs}
use Rattle.run_cases.proofs.playing.Play.play_tick.Goals as goal

pub play_open-intent-requires : goal.play_open-intent-requires
play_open-intent-requires g c = (own_begun _ _ _ c.in-Ok.ensures.answer c.in-Ok.ensures.state).opened

pub unwrap-closed-requires : goal.unwrap-closed-requires
unwrap-closed-requires g c = close_runs _ _ _ _ _ _ c.close.ensures.answer (still_own _ (own_begun _ _ _ c.in-Ok.ensures.answer c.in-Ok.ensures.state) c.play_open-intent.ensures.run)
