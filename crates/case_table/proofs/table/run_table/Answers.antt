use Rattle.std.proofs.Common.{rules, arith, string_bytes}
use Rattle.std.proofs.lemmas.List.{map-append, length-map}
use Rattle.std.proofs.lemmas.Iterator.Consumers.{count_from_yields_List, YieldsList-turn, YieldsList-end}
use Rattle.std.proofs.lemmas.Iterator.Splits.{YieldsList-from_lines}
use Rattle.case_table.specs.Cases.{column}
use Rattle.case_table.proofs.Reports.{wrong_within, one_tried, all_tried}
use Rattle.case_table.proofs.table.run_table.Goals as goal

pub loop-case-preserved : goal.loop-case-preserved
loop-case-preserved g c =
    let line = c.in-Some.case.now in
    let found = string_bytes c.in_ok-found.found in
    let f : g.T.Trying.finds (column 0 line) (column 3 line) found = search rules in
    let so = one_tried c.loop-case.invariant line found f in
    search (rules, map-append, so)

pub add-requires : goal.add-requires
add-requires g c =
    let counted = count_from_yields_List c.lines.result c.count-cases.result c.count-cases.ensures.ran (YieldsList-from_lines c.args.table.now c.lines.ensures.rest) in
    let turn = YieldsList-turn (YieldsList-from_lines c.args.table.now (cc)) c.loop-case.yielded c.loop-case.case-iterator c.loop-case.yielded_by c.next.result c.next.new.self c.in-Some.case c.in-Some.is c.next.ensures.steps in
    let within = wrong_within c.loop-case.invariant in
    let many = length-map c.loop-case.yielded (λ x. x.now) in
    omega (arith, counted, turn.0, within, many, c.count-cases.type_inv)

pub returns : goal.returns
returns g c =
    let counted = count_from_yields_List c.lines.result c.count-cases.result c.count-cases.ensures.ran (YieldsList-from_lines c.args.table.now c.lines.ensures.rest) in
    let all = YieldsList-end (YieldsList-from_lines c.args.table.now (cc)) c.loop-case.yielded c.loop-case.case-iterator c.loop-case.yielded_by c.next.result c.next.new.self c.in-None.is c.next.ensures.steps in
    let told = all_tried c.loop-case.invariant c.args.table.now c.count-cases.result all.0 counted in
    search (rules, told)
