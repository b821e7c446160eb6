use Rattle.std.proofs.Common.{◌≡◌, ◌+◌, ◌-◌, false, length, codes, sym, ap, ◌∙◌, arith}
use Rattle.std.proofs.lemmas.List.{nil_from_length}
use Rattle.std.proofs.lemmas.Bool.{eqb-true}
use Rattle.text.specs.LineWalk.{first_is, lines_left}
use Rattle.text.specs.Pieces.{pieces, field}
use Rattle.text.proofs.Cuts.{some_piece}
use Rattle.bench.specs.Lists.{before_ticks}
use Rattle.bench.proofs.Cutting.{at_ticks, last_line, at_end, one_line, line_length}
use Rattle.bench.proofs.cut.before_ticks.Goals as goal
use Rattle.bench.proofs.cut.before_ticks.Goals.{then-loop-lines-test+else-not-next_is, else-loop-lines-test}

pub loop-lines-init : goal.loop-lines-init
loop-lines-init c =
    let input = c.args.input.now in
    let same = c.of-lines.ensures.same_rest in
    (sym (ap (λ xs. length input - length xs + before_ticks (pieces 10 xs)) same ∙ omega arith), omega (arith, ap length same))

pub returns-in-Err : goal.returns-in-Err
returns-in-Err c =
    let l = c.loop-lines.lines in
    let only = c.in-Err.ensures.0 in
    let none : first_is (codes "tick") l.rest.now ≡ false = ap (λ ps. first_is (codes "tick") (field ps 0)) (sym only) ∙ sym c.next_is.ensures ∙ c.if-not-next_is.true in
    let left : before_ticks (lines_left l) ≡ length l.rest.now = ap before_ticks only ∙ last_line l.rest.now none in
    record { value = sym (c.loop-lines.invariant.0 ∙ omega (arith, left, c.loop-lines.invariant.1)); within = omega arith }

pub loop-lines-smaller : goal.loop-lines-smaller
loop-lines-smaller c =
    let l = c.loop-lines.lines in
    let m = c.next_line.new.self in
    omega (arith, line_length l.rest.now c.in_default.field-0.now m.rest.now c.in_default.ensures.0)

pub loop-lines-preserved : goal.loop-lines-preserved
loop-lines-preserved c =
    let l = c.loop-lines.lines in
    let m = c.next_line.new.self in
    let line = c.in_default.field-0.now in
    let is = c.in_default.ensures.0 in
    let none : first_is (codes "tick") line ≡ false = ap (λ ps. first_is (codes "tick") (field ps 0)) (sym is) ∙ sym c.next_is.ensures ∙ c.if-not-next_is.true in
    let long = line_length l.rest.now line m.rest.now is in
    let step : before_ticks (lines_left l) ≡ length line + 1 + before_ticks (lines_left m) = ap before_ticks is ∙ one_line line (lines_left m) (some_piece 10 m.rest.now) none in
    (c.loop-lines.invariant.0 ∙ omega (arith, step, long, c.loop-lines.invariant.1), omega (arith, long, c.loop-lines.invariant.1))

pub overflow_sub-result : goal.overflow_sub-result
overflow_sub-result c = omega (arith, c.left.ensures, c.loop-lines.invariant.1)

pub returns : goal.returns
returns c =
    let l = c.loop-lines.lines in
    let none_left : before_ticks (lines_left l) ≡ 0 =
    elim c.loop-lines-test.branch [
      | then-loop-lines-test+else-not-next_is w ↦ at_ticks (lines_left l) (sym w.next_is.ensures ∙ w.if-not-next_is.false)
      | else-loop-lines-test w ↦ ap (λ xs. before_ticks (pieces 10 xs)) (nil_from_length l.rest.now (eqb-true (length l.rest.now) 0 (sym w.loop-lines-test.ensures))) ∙ at_end
    ] in
    record { value = sym (c.loop-lines.invariant.0 ∙ omega (arith, none_left, c.left.ensures)); within = omega arith }
