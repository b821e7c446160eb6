use Rattle.std.proofs.Common.{◌≡◌, ◌+◌, ◌++◌, length, string_bytes}
use Rattle.text.specs.LineWalk.{lines_left}
use Rattle.run.specs.Runs.{state_of, drawing_of_run}
use Rattle.bench.specs.Lists.{ticks_of, printed}
use Rattle.bench.proofs.ticks.play_ticks.Given as goal

-- what is printed, and what is left to play, give the list
abbrev pub invariant-loop-run : goal.invariant-loop-run
invariant-loop-run g l =
    (string_bytes l.out ++ printed g.V.Value.numbered (ticks_of g.V.Value.valued (g.K.Kit.meaning l.kit) (drawing_of_run l.initial.run) (state_of l.run) (l.lines.taken + 1) (lines_left l.lines))
    ≡ string_bytes l.initial.out ++ printed g.V.Value.numbered (ticks_of g.V.Value.valued (g.K.Kit.meaning l.kit) (drawing_of_run l.initial.run) (state_of l.initial.run) (l.initial.lines.taken + 1) (lines_left l.initial.lines)))
    × (drawing_of_run l.run ≡ drawing_of_run l.initial.run)

abbrev pub decreases-loop-run : goal.decreases-loop-run
decreases-loop-run g l = length l.lines.rest.now
