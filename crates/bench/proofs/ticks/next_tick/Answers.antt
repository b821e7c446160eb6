use Rattle.std.proofs.Common.{◌≡◌, ℕ, ◌+◌, List, length, Ok, Option, sym, ap, ◌∙◌, inl}
use Rattle.text.specs.Pieces.{fields_of}
use Rattle.text.proofs.ResultLaws.{mapped_ok}
use Rattle.machine.specs.declared.answers.Given.{Given}
use Rattle.machine.specs.declared.answers.Intent.TheVariants.{Keep}
use Rattle.run.specs.Runs.{state_of, drawing_of_run}
use Rattle.tick.specs.Ticks.{played}
use Rattle.bench.specs.Lists.{supplied_tick}
use Rattle.bench.specs.TickLines.{tick_line}
use Rattle.bench.proofs.ticks.next_tick.Goals as goal

pub returns : goal.returns
returns g c =
    let r = c.args.run.now in
    let d = drawing_of_run r in
    let s = state_of r in
    let m = g.K.Kit.meaning c.args.kit.now in
    let valued = g.V.Value.valued in
    let line = c.in_ok-line.line.now in
    let took = c.in_ok-line.ensures in
    let k : ℕ = c.args.lines.now.taken + 1 in
    let number : c.taken.result ≡ k = c.taken.ensures ∙ took.1 in
    let read = c.in_ok-read_tick.ensures in
    let all = mapped_ok (λ (_ : List (Option (Given g.row.V.Denot))). tt) (tick_line valued c.taken.result (length c.args.inputs.now) (fields_of line)) tt (sym read.answer) in
    let gs = all.0 in
    let filled = read.inputs gs all.1 in
    let told : tick_line valued k d.inputs (fields_of line) ≡ Ok gs = sym (λ i. tick_line valued (number i) (c.requires i) (fields_of line)) ∙ all.1 in
    let by = ap (supplied_tick m d s) told in
    let done = c.play.ensures in
    record {
      next = inl (record {
        line = line;
        taken = took.0;
        number = took.1;
        answer = done.answer ∙ ap (λ hs. (played m d s hs Keep).answer) filled ∙ sym (ap (λ o. o.answer) by);
        state = done.state ∙ ap (λ hs. (played m d s hs Keep).state) filled ∙ sym (ap (λ o. o.state) by);
      });
      diagram = done.diagram;
    }
