use Rattle.std.proofs.Common.{map, string_bytes}
use Rattle.case_table.proofs.Reports.{SoFar}
use Rattle.case_table.proofs.table.run_table.Given as goal

abbrev pub invariant-loop-case : goal.invariant-loop-case
invariant-loop-case g l = SoFar g.T.Trying.finds (map (λ x. x.now) l.yielded) (string_bytes l.told.text) l.told.wrong
