use Rattle.std.proofs.Common.{length, ap, arith}
use Rattle.std.proofs.lemmas.List.{take_all}
use Rattle.draft.specs.Text.{text_of}
use Rattle.diagram.specs.Diagrams.{drawing}
use Rattle.diagram.proofs.diagram.Diagram.text.Goals as goal

pub returns : goal.returns
unfolding text_of
returns c =
    let all = take_all c.loop-block.block-index (drawing c.args.self.now).blocks (omega (arith, ap length c.blocks-block-items.ensures, c.loop-block-test.false)) in
    rw all at c.loop-block.invariant.0
