use Rattle.std.proofs.Common.{◌≡◌, drop}
use Rattle.run.specs.Runs.{state_of, drawing_of_run}
use Rattle.tick.specs.Ticks.{supplied}
use Rattle.tick.proofs.tick.supply_all.Given as goal

-- what is left to supply gives the outcome
abbrev pub invariant-loop-wire : goal.invariant-loop-wire
invariant-loop-wire g l =
    (supplied (drawing_of_run l.initial.run) (state_of l.run) l.wire (drop l.wire l.inputs) ≡ supplied (drawing_of_run l.initial.run) (state_of l.initial.run) 0 l.inputs)
    × (drawing_of_run l.run ≡ drawing_of_run l.initial.run)
