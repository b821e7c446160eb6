use Rattle.std.proofs.Common.{◌≡◌, ◌+◌, ◌-◌, ◌≤◌, length}
use Rattle.text.specs.LineWalk.{lines_left}
use Rattle.bench.specs.Lists.{cut_at, before_ticks}
use Rattle.bench.proofs.cut.before_ticks.Given as goal

-- what is passed over, and what is left, give the cut
abbrev pub invariant-loop-lines : goal.invariant-loop-lines
invariant-loop-lines l = (cut_at l.input ≡ length l.input - length l.lines.rest.now + before_ticks (lines_left l.lines)) × (length l.lines.rest.now ≤ length l.input)

abbrev pub decreases-loop-lines : goal.decreases-loop-lines
decreases-loop-lines l = length l.lines.rest.now
