use Rattle.std.proofs.Common.{◌≡◌, ◌+◌, cond, eqb, List, length, Ok, Err, codes, Option, Result, sym, ap, ◌∙◌, arith}
use Rattle.std.proofs.lemmas.Result.{err_from_is_err_and}
use Rattle.text.specs.declared.fault.Cause.TheVariants.{FieldCount}
use Rattle.text.specs.declared.fault.Fault.{Fault}
use Rattle.text.specs.Pieces.{fields_of, field}
use Rattle.text.specs.Results.{placed, mapped, then, fault}
use Rattle.text.specs.Walk.{fields_in, next_field, word_in}
use Rattle.text.proofs.Cuts.{some_piece}
use Rattle.text.proofs.ResultLaws.{never_ok}
use Rattle.machine.specs.declared.answers.Given.{Given}
use Rattle.bench.specs.TickLines.{tick_line, inputs_in}
use Rattle.bench.proofs.LineLaws.{enough, other_word, after_word, right_count}
use Rattle.bench.proofs.line.read_tick.Given.{Over}
use Rattle.bench.proofs.line.read_tick.Goals as goal
use Rattle.bench.proofs.line.read_tick.Goals.{After-next_word, After-expect_count}

-- what was read, without what it was
abbrev only : {V : Type 0} → Result (List (Option (Given V))) Fault → Result (Unit {0}) Fault
only r = mapped (λ _. tt) r

-- what the word's place says of it
asked : (g : Over) (c : After-next_word g) → placed c.args.number 1 (word_in (codes "tick") (field (fields_of c.args.line.now) 0)) ≡ c.next_word.result
asked g c =
    let b = c.of-fields.ensures in
    let moved = c.next_word.ensures.moved in
    let here : next_field c.of-fields.result ≡ field (fields_of c.args.line.now) 0 = λ i. field (fields_of (b.same_line i)) (b.none_taken i) in
    let number : c.next_word.new.self.number ≡ c.args.number = moved.same_number ∙ b.same_number in
    let some = some_piece 44 c.of-fields.result.line.now in
    let taken : c.next_word.new.self.taken ≡ 1 = moved.one_taken ∙ omega (arith, b.none_taken, some) in
    sym (c.next_word.ensures.value ∙ (λ i. placed (number i) (taken i) (word_in (codes "tick") (here i))))

-- what the count of its fields says of it
counted : (g : Over) (c : After-expect_count g) → enough g.V.Value.valued c.args.number (fields_of c.args.line.now) (length c.args.inputs.now) ≡ c.expect_count.result
counted g c =
    let same = c.next_word.ensures.moved.same_line ∙ c.of-fields.ensures.same_line in
    let number : c.next_word.new.self.number ≡ c.args.number = c.next_word.ensures.moved.same_number ∙ c.of-fields.ensures.same_number in
    sym (c.expect_count.ensures ∙ (λ i. cond (eqb (length (fields_of (same i))) (length c.args.inputs.now + 1)) (Ok tt) (Err (fault FieldCount (number i) (length (fields_of (same i)))))))

pub returns-in_err-next_word : goal.returns-in_err-next_word
returns-in_err-next_word g c =
    let p = err_from_is_err_and c.from_residual.result c.from_residual.ensures.1 in
    let all = other_word g.V.Value.valued c.args.number (fields_of c.args.line.now) (length c.args.inputs.now) c.in_err-next_word.field-0.0 (asked g (goal.at.returns-in_err-next_word g c).After-next_word ∙ c.in_err-next_word.was) in
    record { answer = p.1 ∙ ap Err p.2 ∙ sym (ap only all); inputs = λ gs ok. never_ok (sym all ∙ ok) }

pub returns-in_err-expect_count : goal.returns-in_err-expect_count
returns-in_err-expect_count g c =
    let fs = fields_of c.args.line.now in
    let e = length c.args.inputs.now in
    let p = err_from_is_err_and c.from_residual-in_err-expect_count.result c.from_residual-in_err-expect_count.ensures.1 in
    let ok = asked g (goal.at.returns-in_err-expect_count g c).After-next_word ∙ c.in_ok-next_word.was in
    let bad = counted g (goal.at.returns-in_err-expect_count g c).After-expect_count ∙ c.in_err-expect_count.was in
    let all = after_word g.V.Value.valued c.args.number fs e tt ok ∙ ap (λ r. then r (λ _. inputs_in g.V.Value.valued c.args.number 1 e fs)) bad in
    record { answer = p.1 ∙ ap Err p.2 ∙ sym (ap only all); inputs = λ gs good. never_ok (sym all ∙ good) }

pub read_inputs-requires : goal.read_inputs-requires
read_inputs-requires g c =
    let fs = fields_of c.args.line.now in
    let many = counted g (goal.at.read_inputs-requires g c).After-expect_count ∙ c.in_ok-expect_count.was in
    let some = some_piece 44 c.of-fields.result.line.now in
    record {
      in_all = ap (λ l. length (fields_of l)) (c.next_word.ensures.moved.same_line ∙ c.of-fields.ensures.same_line) ∙ right_count g.V.Value.valued c.args.number fs (length c.args.inputs.now) tt many;
      so_far = c.next_word.ensures.moved.one_taken ∙ omega (arith, c.of-fields.ensures.none_taken, some);
    }

pub returns : goal.returns
returns g c =
    let n = c.args.number in
    let fs = fields_of c.args.line.now in
    let e = length c.args.inputs.now in
    let valued = g.V.Value.valued in
    let same = c.next_word.ensures.moved.same_line ∙ c.of-fields.ensures.same_line in
    let number : c.next_word.new.self.number ≡ n = c.next_word.ensures.moved.same_number ∙ c.of-fields.ensures.same_number in
    let ok = asked g (goal.at.returns g c).After-next_word ∙ c.in_ok-next_word.was in
    let many = counted g (goal.at.returns g c).After-expect_count ∙ c.in_ok-expect_count.was in
    let all : inputs_in valued c.next_word.new.self.number 1 e (fields_in c.next_word.new.self) ≡ tick_line valued n e fs =
    (λ i. inputs_in valued (number i) 1 e (fields_of (same i))) ∙ sym (after_word valued n fs e tt ok ∙ ap (λ r. then r (λ _. inputs_in valued n 1 e fs)) many) in
    record { answer = c.read_inputs.ensures.answer ∙ ap only all; inputs = λ gs good. c.read_inputs.ensures.inputs gs (all ∙ good) }
