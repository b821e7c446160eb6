use Rattle.std.proofs.Common.{length, Err, sym, ap, ◌∙◌}
use Rattle.text.specs.declared.fault.Cause.TheVariants.{TableLength}
use Rattle.text.specs.Results.{fault}
use Rattle.diagram.specs.Diagrams.{drawing}
use Rattle.machine.proofs.Lengths.{wires_differ, cells_differ, both_agree}
use Rattle.tables.proofs.lengths.check_lengths.Goals as goal

pub returns-then-wires-wanted-clause-answer : goal.returns-then-wires-wanted-clause-answer
returns-then-wires-wanted-clause-answer c =
    let many = c.from-wanted.ensures ∙ c.wires.ensures in
    ap Err c.new.ensures ∙ ap (λ n. Err (fault TableLength n c.args.wires)) many ∙ sym (wires_differ (drawing c.args.diagram.now) c.args.wires c.args.cells (λ e. c.if-wires-wanted.true (e ∙ sym many)))

pub returns-then-cells-blocks-clause-answer : goal.returns-then-cells-blocks-clause-answer
returns-then-cells-blocks-clause-answer c =
    let many = ap length c.blocks-blocks.ensures in
    ap Err c.new-then-cells-blocks.ensures ∙ ap (λ n. Err (fault TableLength n c.args.cells)) many
    ∙ sym (cells_differ (drawing c.args.diagram.now) c.args.wires c.args.cells (c.if-wires-wanted.false ∙ c.from-wanted.ensures ∙ c.wires.ensures) (λ e. c.if-cells-blocks.true (e ∙ sym many)))

pub returns-clause-answer : goal.returns-clause-answer
returns-clause-answer c =
    sym (both_agree (drawing c.args.diagram.now) c.args.wires c.args.cells (c.if-wires-wanted.false ∙ c.from-wanted.ensures ∙ c.wires.ensures) (c.if-cells-blocks.false ∙ ap length c.blocks-blocks.ensures))
