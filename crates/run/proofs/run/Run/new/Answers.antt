use Rattle.std.proofs.Common.{length, replicate, sym, refl, ap, ◌∙◌}
use Rattle.kit.specs.declared.signal.Signal.TheVariants.{Unknown}
use Rattle.diagram.specs.Diagrams.{drawing}
use Rattle.machine.specs.declared.answers.Phase.TheVariants.{Resting}
use Rattle.machine.specs.Machine.{made_from}
use Rattle.machine.proofs.Lengths.{wires_right, cells_right, lengths_taken}
use Rattle.run.proofs.run.Run.new.Goals as goal

pub start_cells-requires : goal.start_cells-requires
start_cells-requires g c =
    let d = drawing c.args.diagram.now in
    let ws = length c.args.wires.now in
    let cells = length c.args.cells.now in
    cells_right d ws cells tt (lengths_taken d ws cells (g.K.Kit.meaning c.args.kit.now) tt (sym c.in_default.ensures))

pub invariant_of-result-2 : goal.invariant_of-result-2
invariant_of-result-2 g c =
    let m = g.K.Kit.meaning c.args.kit.now in
    let d = drawing c.args.diagram.now in
    let ws = length c.args.wires.now in
    let cells = length c.args.cells.now in
    let ok = lengths_taken d ws cells m tt (sym c.in_default.ensures) in
    record {
      wires_fit = λ _. c.forget.auto.wires ∙ wires_right d ws cells tt ok;
      cells_fit = λ _. c.start_cells.auto.cells ∙ cells_right d ws cells tt ok;
    }

pub returns : goal.returns
returns g c =
    let m = g.K.Kit.meaning c.args.kit.now in
    let d = drawing c.args.diagram.now in
    let ws = c.args.wires.now in
    let cells = c.args.cells.now in
    let ok = sym c.in_default.ensures in
    let long = c.forget.ensures ∙ ap (λ n. replicate n Unknown) (wires_right d (length ws) (length cells) tt (lengths_taken d (length ws) (length cells) m tt ok)) in
    record {
      state = (λ t. record { name = c.args.name; count = 0; phase = Resting; wires = long t; cells = c.start_cells.ensures t }) ∙ sym (ap (λ r. made_from r m d c.args.name ws cells) ok);
      diagram = refl;
    }

pub returns-in-Err : goal.returns-in-Err
returns-in-Err g c =
    let m = g.K.Kit.meaning c.args.kit.now in
    let d = drawing c.args.diagram.now in
    record {
      state = sym (ap (λ r. made_from r m d c.args.name c.args.wires.now c.args.cells.now) (sym c.check_new.ensures ∙ c.in-Err.is));
      diagram = refl;
    }
