use Rattle.std.proofs.Common.{◌≤◌, ◌+◌, ◌^◌, ◌-◌}
use Rattle.std.specs.Io.Iter.{lines_left, lines_known_bytes}
use Rattle.case_table.proofs.Reports.{Streams}
use Rattle.case_table.proofs.table.run_table_into.Given as goal

-- each case counts a line, and the reader gives no more than 2 ^ 64 - 1 of them
abbrev pub invariant-loop-line : goal.invariant-loop-line
invariant-loop-line g l = record {
  within : l.report.wrong ≤ l.report.cases;
  bounded : l.report.cases + lines_left l.line-iterator ≤ 2 ^ 64 - 1;
  known : Streams g.T.Trying.finds (g.B.Read.remaining l.fn.from) (lines_known_bytes g.B.Read.remaining l.line-iterator) (g.W.Write.contents l.fn.to) (g.W.Write.contents l.to) l.report.cases l.report.wrong;
}
