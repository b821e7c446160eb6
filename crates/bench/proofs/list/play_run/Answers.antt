use Rattle.std.proofs.Common.{◌+◌, ◌++◌, string_bytes, sym, ap, ◌∙◌}
use Rattle.std.proofs.lemmas.Result.{IfOk-weaker}
use Rattle.text.specs.LineWalk.{lines_left}
use Rattle.diagram.specs.Diagrams.{drawing}
use Rattle.bench.specs.Lists.{printed, ticks_of}
use Rattle.bench.proofs.Opening.{run_refused, run_made}
use Rattle.bench.proofs.list.play_run.Goals as goal

pub returns-in-Err : goal.returns-in-Err
returns-in-Err g c =
    let m = g.K.Kit.meaning c.args.kit.now in
    let d = drawing c.args.diagram.now in
    let l = c.args.lines.now in
    let out = string_bytes c.args.out.now in
    let bad = run_refused g.V.Value.valued m d (l.taken + 1) (lines_left l) c.args.wires.now c.args.cells.now c.requires.0 c.requires.1.0 c.in-Err.fault (sym c.in-Err.ensures) in
    IfOk-weaker c.writeln.result _ _ (λ _ wrote. wrote ∙ ap (λ t. out ++ printed g.V.Value.numbered t) (sym bad)) c.writeln.ensures.bytes

pub returns : goal.returns
returns g c =
    let m = g.K.Kit.meaning c.args.kit.now in
    let d = drawing c.args.diagram.now in
    let l = c.args.lines.now in
    let out = string_bytes c.args.out.now in
    let valued = g.V.Value.valued in
    let run = c.new-run.result in
    let is = run_made valued m d (l.taken + 1) (lines_left l) c.args.wires.now c.args.cells.now c.requires.0 c.requires.1.0 tt (sym c.in_default.ensures) in
    let made = c.new-run.ensures in
    IfOk-weaker c.play_ticks.result _ _ (λ _ wrote. wrote ∙ ap (λ t. out ++ printed g.V.Value.numbered t) ((λ i. ticks_of valued m (made.diagram i) (made.state i) (l.taken + 1) (lines_left l)) ∙ sym is)) c.play_ticks.ensures
