use Rattle.std.proofs.Common.{refl, ap}
use Rattle.run.specs.Runs.{token_of}
use Rattle.run_cases.proofs.Offers.{own_again}
use Rattle.run_cases.proofs.Steps.{close_runs}
use Rattle.run_cases.proofs.offering.Meeting.offer.Goals as goal

pub unwrap-closed-requires : goal.unwrap-closed-requires
unwrap-closed-requires g c = close_runs _ _ _ _ _ _ c.close-in-Err.ensures.answer (own_again refl (ap token_of c.in-Err.ensures.handed) c.requires)
