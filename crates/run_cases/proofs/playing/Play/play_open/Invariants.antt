use Rattle.std.proofs.Common.{length, ◌≤◌}
use Rattle.std.specs.Slice.Iter.{iter_rest}
use Rattle.machine.proofs.Ticks.{Alike}
use Rattle.run.specs.Runs.{state_of}
use Rattle.run_cases.proofs.playing.Play.play_open.Given as goal

-- the tick is the same
abbrev pub invariant-loop-text : goal.invariant-loop-text
invariant-loop-text g l = Alike (state_of l.initial.self.run) (state_of l.self.run) × (length (iter_rest l.self.script) ≤ length (iter_rest l.initial.self.script))

abbrev pub decreases-loop-text : goal.decreases-loop-text
decreases-loop-text g l = length (iter_rest l.self.script)
