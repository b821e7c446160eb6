use Rattle.std.proofs.Common.{◌≡◌, ◌+◌, length, take}
use Rattle.text.specs.LineWalk.{lines_left}
use Rattle.draft.specs.Reading.{draft_of}
use Rattle.draft.proofs.ReadingLaws.{drawn_from}
use Rattle.draft.proofs.draft.Draft.read.Given as goal

-- what is left, after the blocks drawn so far, gives the whole drawing
abbrev pub invariant-loop-lines : goal.invariant-loop-lines
invariant-loop-lines l = drawn_from l.draft.inputs l.draft.wires (l.lines.taken + 1) (take l.draft.count l.draft.blocks) (lines_left l.lines) ≡ draft_of l.text

abbrev pub decreases-loop-lines : goal.decreases-loop-lines
decreases-loop-lines l = length (lines_left l.lines)
