use Rattle.std.proofs.Common.{rules, is_err, sym, ap, ◌∙◌}
use Rattle.run_cases.proofs.Steps.{alike_left, alike_on, begin_turned, turned_alike, err_of_token}
use Rattle.run_cases.proofs.playing.Play.play_open.Goals as goal

pub unwrap_err-fault-requires : goal.unwrap_err-fault-requires
unwrap_err-fault-requires g c = sym (err_of_token c.begin.result) ∙ ap is_err c.begin.ensures.answer ∙ begin_turned _ (c.loop-text.invariant.0.phase ∙ c.requires)

pub loop-text-preserved-in-Ok-Begin : goal.loop-text-preserved-in-Ok-Begin
loop-text-preserved-in-Ok-Begin g c = (alike_on c.loop-text.invariant.0 (alike_left c.begin.ensures.state (turned_alike _ (c.loop-text.invariant.0.phase ∙ c.requires))), search rules)
