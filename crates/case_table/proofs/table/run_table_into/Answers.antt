use Rattle.std.proofs.Common.{◌≡◌, List, ℕ, Bool, true, false, cond, ◌+◌, ◌≤◌, rules, arith, string_bytes, ap, ◌∙◌}
use Rattle.std.specs.Io.Iter.{lines_known_bytes}
use Rattle.std.specs.Io.KnownBytes.{Appends}
use Rattle.case_table.specs.Cases.{column, is_wrong, told_of}
use Rattle.case_table.proofs.Reports.{streams_none, streams_more, streams_all}
use Rattle.case_table.proofs.table.run_table_into.Goals as goal

cond_le : (b : Bool) → cond b 1 0 ≤ 1
cond_le true = omega arith
cond_le false = omega arith

pub loop-line-init : goal.loop-line-init
loop-line-init g c =
    let empty = c.new-report.ensures in
    record {
      within = omega (arith, empty.cases, empty.wrong);
      bounded = omega (arith, empty.cases);
      known = streams_none g.T.Trying.finds _ _ _ _ _ (ap (lines_known_bytes g.B.Read.remaining) c.into_iter-line-iterator.ensures.into_iter_gives ∙ c.lines-line-items.ensures) empty.cases empty.wrong;
    }

pub add-requires-clause-cases : goal.add-requires-clause-cases
add-requires-clause-cases g c = let fewer = (c.in-Some.ensures.goes.on tt).2 in omega (arith, c.loop-line.invariant.bounded, fewer)

pub add-requires-clause-wrong : goal.add-requires-clause-wrong
add-requires-clause-wrong g c = let fewer = (c.in-Some.ensures.goes.on tt).2 in omega (arith, c.loop-line.invariant.within, c.loop-line.invariant.bounded, fewer)

pub loop-line-preserved : goal.loop-line-preserved
loop-line-preserved g c =
    let was = c.loop-line.invariant in
    let line : List ℕ = string_bytes c.in_ok-line.line in
    let found : List ℕ = string_bytes c.in_ok-found.found in
    let fewer = (c.in-Some.ensures.goes.on tt).2 in
    let read = rw c.in_ok-line.was at c.in-Some.ensures.steps.1 in
    let f : g.T.Trying.finds (column 0 line) (column 3 line) found = search rules in
    let told : Appends (g.W.Write.contents c.loop-line.to) (g.W.Write.contents c.add.new.to) (told_of line (column 2 line) found) = search rules in
    let one_more : c.add.new.self.cases ≡ c.loop-line.report.cases + 1 = search rules in
    let if_wrong : c.add.new.self.wrong ≡ c.loop-line.report.wrong + cond (is_wrong (column 2 line) found) 1 0 = search rules in
    record {
      within = omega (arith, was.within, one_more, if_wrong, cond_le (is_wrong (column 2 line) found));
      bounded = omega (arith, was.bounded, one_more, fewer);
      known = streams_more g.T.Trying.finds _ _ _ _ _ _ _ _ _ _ line found was.known read.0 read.1 f told one_more if_wrong;
    }

pub returns : goal.returns
returns g c =
    let ends_here = c.in-None.ensures.steps.1 in
    streams_all g.T.Trying.finds _ _ _ _ _ _ _ c.loop-line.invariant.known ends_here c.in_ok-end.ensures
