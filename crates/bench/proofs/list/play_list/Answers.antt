use Rattle.std.proofs.Common.{◌≡◌, ◌+◌, ◌-◌, ◌++◌, length, take, drop, string_bytes, sym, ap, ◌∙◌, arith}
use Rattle.std.proofs.lemmas.Result.{IfOk-weaker}
use Rattle.text.specs.LineWalk.{lines_left}
use Rattle.text.specs.Pieces.{pieces}
use Rattle.text.proofs.Cuts.{some_piece}
use Rattle.diagram.specs.Diagrams.{drawing}
use Rattle.bench.specs.Lists.{printed, run_of, drawn, cut_at, first_tick, tick_lines}
use Rattle.bench.proofs.Opening.{list_refused, list_opened}
use Rattle.bench.proofs.Telling.{every_list_tells}
use Rattle.bench.proofs.list.play_list.Goals as goal

pub returns-in-Ok : goal.returns-in-Ok
returns-in-Ok g c =
    let m = g.K.Kit.meaning c.args.kit.now in
    let d = drawing c.in-Ok.diagram in
    let l = c.after-lines.result in
    let input = c.args.input.now in
    let at = c.before_ticks-at.result in
    let cut : at ≡ cut_at input = c.before_ticks-at.ensures.value in
    let out = string_bytes c.args.out.now in
    let valued = g.V.Value.valued in
    let is = list_opened valued m input d (sym (c.in-Ok.ensures ∙ ap (drawn input) cut)) in
    let number : l.taken + 1 ≡ first_tick input =
    ap (λ n. n + 1) c.after-lines.ensures.same_taken ∙ ap (λ n. length (pieces 10 (take n input)) - 1 + 1) cut ∙ omega (arith, some_piece 10 (take (cut_at input) input)) in
    let lines : lines_left l ≡ tick_lines input = ap (pieces 10) (c.after-lines.ensures.same_rest ∙ ap (λ n. drop n input) cut) in
    record {
      prints = IfOk-weaker c.play_lines.result _ _ (λ _ wrote. wrote ∙ ap (λ t. out ++ printed g.V.Value.numbered t) ((λ i. run_of valued m d (number i) (lines i)) ∙ sym is)) c.play_lines.ensures;
      tells = every_list_tells valued m (record { monotone = g.met.K.Kit.monotone c.args.kit.now; bounded = g.met.K.Kit.bounded c.args.kit.now }) input;
    }

pub returns-in-Err : goal.returns-in-Err
returns-in-Err g c =
    let m = g.K.Kit.meaning c.args.kit.now in
    let input = c.args.input.now in
    let out = string_bytes c.args.out.now in
    let bad = list_refused g.V.Value.valued m input c.in-Err.fault (sym (c.in-Err.ensures ∙ ap (drawn input) c.before_ticks-at.ensures.value)) in
    record {
      prints = IfOk-weaker c.writeln.result _ _ (λ _ wrote. wrote ∙ ap (λ t. out ++ printed g.V.Value.numbered t) (sym bad)) c.writeln.ensures.bytes;
      tells = every_list_tells g.V.Value.valued m (record { monotone = g.met.K.Kit.monotone c.args.kit.now; bounded = g.met.K.Kit.bounded c.args.kit.now }) input;
    }
