use Rattle.std.proofs.Common.{◌≡◌, Ok, sym, refl, ap, ◌∙◌}
use Rattle.diagram.specs.Diagrams.{drawing}
use Rattle.tables.specs.Fitting.{fitting}
use Rattle.tables.proofs.Closings.{kept_none, kept_some}
use Rattle.tables.proofs.closing.keep.Goals as goal

pub returns-in-Some : goal.returns-in-Some
returns-in-Some g c =
    let ws = c.args.wires.now in
    let ok : fitting (drawing c.args.diagram.now) ws c.args.cells.now ≡ Ok tt = sym c.in_ok-check_lengths.ensures.answer in
    let kept = kept_some ws c.in-Some.lowest (sym c.in-Some.ensures) in
    record {
      answer = rw ok (ap Ok (sym kept.0));
      after = rw ok (sym (kept.1 (g.K.Kit.meaning c.args.kit.now) (drawing c.args.diagram.now) c.args.cells.now));
      wires = refl;
    }

pub returns-in-None : goal.returns-in-None
returns-in-None g c =
    let ws = c.args.wires.now in
    let ok : fitting (drawing c.args.diagram.now) ws c.args.cells.now ≡ Ok tt = sym c.in_ok-check_lengths.ensures.answer in
    let kept = kept_none ws (sym c.in-None.ensures) in
    record {
      answer = rw ok (ap Ok (sym kept.0));
      after = rw ok (c.move_cells.ensures ∙ sym (kept.1 (g.K.Kit.meaning c.args.kit.now) (drawing c.args.diagram.now) c.args.cells.now));
      wires = refl;
    }
