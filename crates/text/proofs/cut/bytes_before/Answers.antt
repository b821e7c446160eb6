use Rattle.std.proofs.Common.{◌≡◌, eqb, length, position, ap, ◌∙◌, rules, tests}
use Rattle.std.specs.Option.{unwrap_or}
use Rattle.std.proofs.lemmas.Iterator.{YieldsList-from_slice}
use Rattle.std.proofs.lemmas.Iterator.Search.{position_from_yields_List}
use Rattle.text.proofs.Cuts.{before_found}
use Rattle.text.proofs.cut.bytes_before.Goals as goal

pub returns-clause-value : goal.returns-clause-value
returns-clause-value c =
    let text = c.args.text.now in
    let found : c.position.result ≡ position (λ x. eqb x c.args.byte) text = position_from_yields_List (λ x. eqb x c.args.byte) _ _ c.position.result c.position.ensures.ran (YieldsList-from_slice text c.iter.ensures.rest) (λ x b q k. search (rules, tests)) in
    c.unwrap_or.ensures ∙ ap (λ i. unwrap_or i (length text)) found ∙ before_found c.args.byte text
