use Rattle.std.proofs.Common.{◌≡◌, ◌+◌, ◌-◌, List, [], ◌∷◌, ◌++◌, length, take, set, Ok, Err, Option, sym, refl, ap, ◌∙◌, arith}
use Rattle.std.proofs.lemmas.List.{take_more_set, take_all}
use Rattle.std.proofs.lemmas.Result.{err_from_is_err_and}
use Rattle.text.specs.Pieces.{field, fields_of}
use Rattle.text.specs.Results.{placed, mapped}
use Rattle.text.specs.Walk.{fields_in, next_field}
use Rattle.text.proofs.ResultLaws.{same_ok, never_ok}
use Rattle.machine.specs.declared.answers.Given.{Given}
use Rattle.marks.specs.Marks.{input_in}
use Rattle.bench.specs.TickLines.{inputs_in}
use Rattle.bench.proofs.LineLaws.{ahead, none_left, one_more, one_refused, none_ahead}
use Rattle.bench.proofs.line.read_inputs.Given.{Over}
use Rattle.bench.proofs.line.read_inputs.Goals as goal
use Rattle.bench.proofs.line.read_inputs.Goals.{After-place}

pub loop-slot-init : goal.loop-slot-init
loop-slot-init g c =
    let n = c.args.fields.now.number in
    let fs = fields_in c.args.fields.now in
    let e = length c.args.inputs.now in (
      record { same_line = refl; same_number = refl; so_far = c.requires.so_far },
      none_ahead (inputs_in g.V.Value.valued n 1 (e - 0) fs) ∙ ap (λ k. inputs_in g.V.Value.valued n 1 k fs) (omega arith),
    )

-- what the place of the field says of it
asked : (g : Over) (c : After-place g) → placed c.args.fields.now.number (c.loop-slot.slot-index + 1 + 1) (input_in g.V.Value.valued (field (fields_in c.args.fields.now) (c.loop-slot.slot-index + 1))) ≡ c.place.result
asked g c =
    let f = c.args.fields.now in
    let on = c.loop-slot.invariant.0 in
    let moved = c.next_field-field.ensures.moved in
    let k = c.loop-slot.slot-index in
    let here : next_field c.loop-slot.fields ≡ field (fields_in f) (k + 1) = λ i. field (fields_of (on.same_line i)) (on.so_far i) in
    let number : c.next_field-field.new.self.number ≡ f.number = moved.same_number ∙ on.same_number in
    let many : length (fields_in c.loop-slot.fields) ≡ length c.args.inputs.now + 1 = ap (λ l. length (fields_of l)) on.same_line ∙ c.requires.in_all in
    let taken : c.next_field-field.new.self.taken ≡ k + 1 + 1 = moved.one_taken ∙ omega (arith, on.so_far, many, c.loop-slot-test.true) in
    sym (c.place.ensures ∙ (λ i. placed (number i) (taken i) ((c.input.ensures ∙ ap (input_in g.V.Value.valued) (c.next_field-field.ensures.value ∙ here)) i)))

pub returns-in_err-slot : goal.returns-in_err-slot
returns-in_err-slot g c =
    let p = err_from_is_err_and c.from_residual.result c.from_residual.ensures.1 in
    let n = c.args.fields.now.number in
    let fs = fields_in c.args.fields.now in
    let e = length c.args.inputs.now in
    let k = c.loop-slot.slot-index in
    let gs = take k c.loop-slot.inputs in
    let valued = g.V.Value.valued in
    let f = c.in_err-slot.field-0.0 in
    let bad = asked g (goal.at.returns-in_err-slot g c).After-place ∙ c.in_err-slot.was in
    let all : inputs_in valued n 1 e fs ≡ Err f = sym c.loop-slot.invariant.1 ∙ ap (λ m. ahead gs (inputs_in valued n (k + 1) m fs)) (omega (arith, c.loop-slot-test.true)) ∙ one_refused valued n fs (k + 1) (e - k - 1) gs f bad in
    record {
      answer = p.1 ∙ ap Err p.2 ∙ sym (ap (mapped (λ (_ : List (Option (Given g.row.V.Denot))). tt)) all);
      inputs = λ hs ok. never_ok (sym all ∙ ok);
    }

pub loop-slot-preserved : goal.loop-slot-preserved
loop-slot-preserved g c =
    let n = c.args.fields.now.number in
    let fs = fields_in c.args.fields.now in
    let e = length c.args.inputs.now in
    let k = c.loop-slot.slot-index in
    let xs = c.loop-slot.inputs in
    let gs = take k xs in
    let valued = g.V.Value.valued in
    let on = c.loop-slot.invariant.0 in
    let moved = c.next_field-field.ensures.moved in
    let x = c.in_ok-slot.field-0 in
    let ok = asked g (goal.at.loop-slot-preserved g c).After-place ∙ c.in_ok-slot.was in
    let many : length (fields_in c.loop-slot.fields) ≡ e + 1 = ap (λ l. length (fields_of l)) on.same_line ∙ c.requires.in_all in
    let grown : take (k + 1) (set xs k x) ≡ gs ++ x ∷ [] = take_more_set xs k x (omega (arith, c.loop-slot.auto.inputs, c.loop-slot-test.true)) in (
      record { same_line = moved.same_line ∙ on.same_line; same_number = moved.same_number ∙ on.same_number; so_far = moved.one_taken ∙ omega (arith, on.so_far, many, c.loop-slot-test.true) },
      (λ i. ahead (grown i) (inputs_in valued n (k + 1 + 1) (e - (k + 1)) fs))
          ∙ ap (λ j. ahead (gs ++ x ∷ []) (inputs_in valued n (k + 1 + 1) j fs)) (omega arith)
          ∙ sym (ap (λ j. ahead gs (inputs_in valued n (k + 1) j fs)) (omega (arith, c.loop-slot-test.true)) ∙ one_more valued n fs (k + 1) (e - k - 1) gs x ok)
          ∙ c.loop-slot.invariant.1,
    )

pub returns : goal.returns
returns g c =
    let n = c.args.fields.now.number in
    let fs = fields_in c.args.fields.now in
    let e = length c.args.inputs.now in
    let k = c.loop-slot.slot-index in
    let xs = c.loop-slot.inputs in
    let valued = g.V.Value.valued in
    let all : inputs_in valued n 1 e fs ≡ Ok xs =
    sym c.loop-slot.invariant.1 ∙ ap (λ m. ahead (take k xs) (inputs_in valued n (k + 1) m fs)) (omega (arith, c.loop-slot-test.false)) ∙ none_left valued n fs (k + 1) (take k xs) ∙ ap Ok (take_all k xs (omega (arith, c.loop-slot.auto.inputs, c.loop-slot-test.false))) in
    record { answer = sym (ap (mapped (λ (_ : List (Option (Given g.row.V.Denot))). tt)) all); inputs = λ hs ok. same_ok (sym all ∙ ok) }
