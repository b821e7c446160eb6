use Rattle.std.proofs.Common.{◌<◌, length, drop, refl, sym, ap, ◌∙◌, arith}
use Rattle.std.proofs.lemmas.List.{length-drop, drop-drop}
use Rattle.text.specs.Pieces.{fields_left}
use Rattle.text.specs.Walk.{fields_in}
use Rattle.text.proofs.Cuts.{some_piece, few_pieces}
use Rattle.text.proofs.fields.Fields.next_field.Goals as goal
use Rattle.text.proofs.fields.Fields.next_field.Goals.{In-Some}

pub returns-in_default-clause-moved : goal.returns-in_default-clause-moved
returns-in_default-clause-moved c =
    let f = c.args.self.now in
    let none = ap length (ap fields_left (sym c.in_default.is) ∙ f.here) in
    record { same_line = refl; same_number = refl; one_taken = omega (arith, f.within, none, length-drop f.taken (fields_in f)) }

one_left : (c : In-Some) → c.args.self.now.taken < length (fields_in c.args.self.now)
one_left c =
    let f = c.args.self.now in
    let some = ap length (ap fields_left (sym c.in-Some.is) ∙ f.here) in
    omega (arith, some, some_piece 44 c.in-Some.rest.now, length-drop f.taken (fields_in f))

pub overflow_add-self : goal.overflow_add-self
overflow_add-self c = let f = c.args.self.now in let more = one_left (goal.at.overflow_add-self c).In-Some in omega (arith, f.short, more, few_pieces 44 f.line.now)

pub invariant_of-self : goal.invariant_of-self
invariant_of-self c =
    let f = c.args.self.now in
    let left = ap fields_left (sym c.in-Some.is) ∙ f.here in
    record {
      short = f.short;
      counted = f.counted;
      within = omega (arith, one_left (goal.at.invariant_of-self c).In-Some);
      here = ap (drop 1) (sym c.first_piece.ensures.value ∙ left) ∙ drop-drop 1 f.taken (fields_in f);
    }
