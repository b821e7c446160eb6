use Rattle.std.proofs.Common.{◌≡◌, ◌+◌, ◌*◌, ◌≤◌, ◌++◌, length, take}
use Rattle.std.specs.List.{flat_map}
use Rattle.draft.specs.Text.{block_text}
use Rattle.diagram.specs.Diagrams.{drawing}
use Rattle.diagram.specs.Lines.{sizes_text}
use Rattle.diagram.proofs.diagram.Diagram.text.Given as goal

-- the lines so far, none of them longer than 64 bytes
abbrev pub invariant-loop-block : goal.invariant-loop-block
invariant-loop-block l =
    let d = drawing l.self in
    (l.text.bytes ≡ sizes_text d.inputs d.wires ++ flat_map block_text (take l.block-index d.blocks)) × (length l.text.bytes ≤ 64 + 64 * l.block-index)
