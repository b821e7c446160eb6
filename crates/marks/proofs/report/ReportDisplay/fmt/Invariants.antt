use Rattle.std.proofs.Common.{take}
use Rattle.std.specs.Fmt.{IsPlainFormatter, HasWritten}
use Rattle.marks.specs.Marks.{shown_wires}
use Rattle.marks.proofs.report.ReportDisplay.fmt.Given as goal

-- the wires so far are written
abbrev pub invariant-loop-wire : goal.invariant-loop-wire
invariant-loop-wire g l = IsPlainFormatter l.initial.f → HasWritten g.W.Write.write_str_gives l.initial.f (shown_wires g.V.Value.numbered (take l.wire-index l.wire-items)) l.f
