use Rattle.std.proofs.Common.{lit<, [], refl, ap, ◌∙◌, unwrap_or}
use Rattle.std.proofs.lemmas.Iterator.Splits.{YieldsList-from_str_split}
use Rattle.std.proofs.lemmas.Iterator.Consumers.{nth_from_yields_List}
use Rattle.case_table.proofs.Reports.{column_now}
use Rattle.case_table.proofs.table.column.Goals as goal

pub returns : goal.returns
returns c =
    let nth = nth_from_yields_List c.nth.result _ c.args.at c.nth.ensures.ran (YieldsList-from_str_split 9 c.args.line.now (lit< tt) c.split.ensures.text c.split.ensures.has_more c.split.ensures.pattern) in
    ap (λ x. x.now) c.unwrap_or.ensures ∙ column_now c.nth.result (λ x. x.now) _ refl ∙ ap (λ o. unwrap_or o []) nth
