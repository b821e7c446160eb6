use Rattle.std.proofs.Common.{◌≡◌, ◌+◌, ◌-◌, length, take}
use Rattle.text.specs.Walk.{fields_in}
use Rattle.draft.specs.Walk.{Walked}
use Rattle.bench.specs.TickLines.{inputs_in}
use Rattle.bench.proofs.LineLaws.{ahead}
use Rattle.bench.proofs.line.read_inputs.Given as goal

-- what is taken so far, and what is left to read, give the line's
abbrev pub invariant-loop-slot : goal.invariant-loop-slot
invariant-loop-slot g l =
    Walked l.initial.fields l.fields (l.slot-index + 1)
    × (ahead (take l.slot-index l.inputs) (inputs_in g.V.Value.valued l.initial.fields.number (l.slot-index + 1) (length l.initial.inputs - l.slot-index) (fields_in l.initial.fields))
    ≡ inputs_in g.V.Value.valued l.initial.fields.number 1 (length l.initial.inputs) (fields_in l.initial.fields))
