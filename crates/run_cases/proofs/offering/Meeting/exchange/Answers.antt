use Rattle.std.proofs.Common.{◌≡◌, is_ok, is_err, sym, ap, ◌∙◌, subst}
use Rattle.run.specs.Runs.{token_of, close_answer, HandsBack}
use Rattle.run_cases.proofs.Offers.{own_again, exchanged, left_as_it_was, taken_own, turned_too}
use Rattle.run_cases.proofs.Steps.{close_runs, err_without_token}
use Rattle.run_cases.proofs.offering.Meeting.exchange.Goals as goal

pub unwrap-other-requires : goal.unwrap-other-requires
unwrap-other-requires g c =
    let taken = taken_own _ _ _ _ _ _ c.requires.of_second (sym (ap is_ok c.in-Ok.ensures.answer)) in
    close_runs _ _ _ _ _ _ c.close-in-Ok.ensures.answer (exchanged c.requires.of_first c.requires.of_second taken)

pub unwrap_err-refused-requires : goal.unwrap_err-refused-requires
unwrap_err-refused-requires g c =
    sym (err_without_token c.close-in-Err.result)
    ∙ ap is_err c.close-in-Err.ensures.answer
    ∙ turned_too _ _ _ _ _ _ _ _ c.requires.of_first c.requires.of_second _ c.in-Err.ensures.answer

pub unwrap-own-requires : goal.unwrap-own-requires
unwrap-own-requires g c =
    let bad = ap close_answer (sym c.unwrap_err-refused.ensures) ∙ c.close-in-Err.ensures.answer in
    let same = left_as_it_was _ _ _ _ _ _ bad c.close-in-Err.ensures.state in
    close_runs _ _ _ _ _ _ c.close-in-Err-2.ensures.answer (own_again same (ap token_of c.in-Err.ensures.handed) c.requires.of_first)

pub unwrap-other-requires-in-Err : goal.unwrap-other-requires-in-Err
unwrap-other-requires-in-Err g c =
    let handed : c.unwrap_err-refused.result.token ≡ c.args.b = subst (HandsBack c.args.b) c.unwrap_err-refused.ensures c.close-in-Err.ensures.handed in
    let same = left_as_it_was _ _ _ _ _ _ c.in-Err.ensures.answer c.in-Err.ensures.state in
    close_runs _ _ _ _ _ _ c.close-in-Err-3.ensures.answer (own_again same (ap token_of handed) c.requires.of_second)
