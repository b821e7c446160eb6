use Rattle.std.proofs.Common.{◌≡◌, ◌+◌, [], ◌∷◌, ◌++◌, length, Ok, Err, string_bytes, sym, ap, ◌∙◌, subst}
use Rattle.std.proofs.lemmas.List.{append_assoc, append-nil, nil_from_length}
use Rattle.std.proofs.lemmas.Result.{IfOk-weaker}
use Rattle.std.proofs.lemmas.Bool.{eqb-true, eqb-false}
use Rattle.text.specs.LineWalk.{lines_left}
use Rattle.text.specs.Pieces.{pieces}
use Rattle.run.specs.Runs.{state_of, drawing_of_run}
use Rattle.marks.specs.Marks.{shown_report}
use Rattle.bench.specs.Lists.{Shown, ticks_of, printed, shown_line, ends}
use Rattle.bench.specs.Steps.{NextTick}
use Rattle.bench.proofs.Playing.{printed_more, none_left, next_shows, next_shorter, next_refused}
use Rattle.bench.proofs.ticks.play_ticks.Goals as goal

pub loop-run-smaller : goal.loop-run-smaller
loop-run-smaller g c =
    let r = c.loop-run.run in
    next_shorter g.V.Value.valued (g.K.Kit.meaning c.args.kit.now) (drawing_of_run r) (state_of r) (state_of c.next_tick.new.run) c.loop-run.lines c.next_tick.new.lines c.in-Ok.played c.in-Ok.ensures.next

pub loop-run-preserved : goal.loop-run-preserved
loop-run-preserved g c =
    let r = c.loop-run.run in
    let r' = c.next_tick.new.run in
    let l = c.loop-run.lines in
    let l' = c.next_tick.new.lines in
    let m = g.K.Kit.meaning c.args.kit.now in
    let valued = g.V.Value.valued in
    let num = g.V.Value.numbered in
    let d = drawing_of_run c.args.run.now in
    let same = c.loop-run.invariant.1 in
    let p = c.in-Ok.played in
    let rest = ticks_of valued m d (state_of r') (l'.taken + 1) (lines_left l') in
    let x : Shown g.row.V.Denot = record { closed = p.closed; rounds = p.settled.rounds; wires = (state_of r').wires } in
    let next : NextTick valued m d (state_of r) l (Ok p) (state_of r') l' = subst (λ e. NextTick valued m e (state_of r) l (Ok p) (state_of r') l') same c.in-Ok.ensures.next in
    let on = next_shows valued m d (state_of r) (state_of r') l l' p next in
    let out = string_bytes c.loop-run.out in
    let wrote : string_bytes c.writeln.new.self ≡ out ++ shown_line num x = c.in_ok-writeln-in-Ok.ensures.bytes ∙ ap (λ ws. out ++ (shown_report num p.closed p.settled.rounds ws ++ 10 ∷ [])) c.wires.ensures in (
      ap (λ b. b ++ printed num rest) wrote ∙ append_assoc out (shown_line num x) (printed num rest) ∙ ap (λ b. out ++ b) (sym (printed_more num x rest)) ∙ ap (λ t. out ++ printed num t) (sym on) ∙ c.loop-run.invariant.0,
      c.in-Ok.ensures.diagram ∙ same,
    )

pub returns-in-Err : goal.returns-in-Err
returns-in-Err g c =
    let r = c.loop-run.run in
    let r' = c.next_tick.new.run in
    let l = c.loop-run.lines in
    let l' = c.next_tick.new.lines in
    let m = g.K.Kit.meaning c.args.kit.now in
    let valued = g.V.Value.valued in
    let num = g.V.Value.numbered in
    let d = drawing_of_run c.args.run.now in
    let f = c.in-Err.fault in
    let out = string_bytes c.loop-run.out in
    let next : NextTick valued m d (state_of r) l (Err f) (state_of r') l' = subst (λ e. NextTick valued m e (state_of r) l (Err f) (state_of r') l') c.loop-run.invariant.1 c.in-Err.ensures.next in
    let some = eqb-false (length l.rest.now) 0 (sym c.loop-run-test.ensures) in
    let bad = next_refused valued m d (state_of r) (state_of r') l l' f some next in
    IfOk-weaker c.writeln-in-Err.result _ _ (λ _ wrote. wrote ∙ ap (λ t. out ++ printed num t) (sym bad) ∙ c.loop-run.invariant.0) c.writeln-in-Err.ensures.bytes

pub returns : goal.returns
returns g c =
    let r = c.loop-run.run in
    let l = c.loop-run.lines in
    let m = g.K.Kit.meaning c.args.kit.now in
    let valued = g.V.Value.valued in
    let num = g.V.Value.numbered in
    let d = drawing_of_run c.args.run.now in
    let empty = nil_from_length l.rest.now (eqb-true (length l.rest.now) 0 (sym c.loop-run-test.ensures)) in
    let done : ticks_of valued m d (state_of r) (l.taken + 1) (lines_left l) ≡ ends = ap (λ xs. ticks_of valued m d (state_of r) (l.taken + 1) (pieces 10 xs)) empty ∙ none_left valued m d (state_of r) (l.taken + 1) in
    sym (append-nil (string_bytes c.loop-run.out)) ∙ sym (ap (λ x. string_bytes c.loop-run.out ++ printed num x) done) ∙ c.loop-run.invariant.0
