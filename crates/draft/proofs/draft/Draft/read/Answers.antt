use Rattle.std.proofs.Common.{◌≡◌, ◌+◌, List, [], ◌∷◌, ◌++◌, length, take, Ok, Err, Result, sym, ap, ◌∙◌, arith}
use Rattle.std.proofs.lemmas.List.{length-take-le, nil_from_length}
use Rattle.std.proofs.lemmas.Result.{err_from_is_err_and}
use Rattle.std.proofs.lemmas.Bool.{eqb-true, eqb-false}
use Rattle.text.specs.declared.fault.Cause.TheVariants.{FieldCount}
use Rattle.text.specs.declared.fault.Fault.{Fault}
use Rattle.text.specs.LineWalk.{lines_left}
use Rattle.text.specs.Pieces.{pieces, fields_of}
use Rattle.text.specs.Results.{then, mapped, fault}
use Rattle.text.proofs.Cuts.{some_piece}
use Rattle.draft.specs.declared.block.Block.{Block}
use Rattle.draft.specs.declared.draft.Draft.{Draft}
use Rattle.draft.specs.Drafts.{drawing_of}
use Rattle.draft.specs.Drawings.{Drawing}
use Rattle.draft.specs.Lines.{block_line, diagram_line}
use Rattle.draft.specs.Reading.{draft_of, drawing_in}
use Rattle.draft.proofs.ReadingLaws.{blocks_done, blocks_unended, drawn_from, drawn_step, drawing_step, drawing_unended, sizes_fit}
use Rattle.draft.proofs.draft.Draft.read.Goals as goal
use Rattle.draft.proofs.draft.Draft.read.Goals.{In_ok-line, In_ok-line-2}

-- the exit by a fault
broken : (r : Result Draft Fault) (e f : Fault) (x : Result Drawing Fault) → r ≡ Err e → e ≡ f → x ≡ Err f → mapped drawing_of r ≡ x
broken r e f x is same h = ap (mapped drawing_of) is ∙ ap Err same ∙ sym h

pub returns-in_err-line : goal.returns-in_err-line
returns-in_err-line c =
    let p = err_from_is_err_and c.from_residual.result c.from_residual.ensures.1 in
    let l = c.in_err-line.ensures in
    let first : c.of-lines.result.taken + 1 ≡ 1 = omega (arith, c.of-lines.ensures.same_taken) in
    broken c.from_residual.result p.0 _ _ p.1 (p.2 ∙ l.1 ∙ ap (λ k. fault FieldCount k 0) first)
    (ap draft_of (sym c.of-lines.ensures.same_rest) ∙ ap drawing_in l.0 ∙ drawing_unended c.of-lines.result.rest.now)

-- the first line was taken: what is left follows it
opened : (c : In_ok-line) → draft_of c.args.text.now ≡ then (diagram_line (fields_of c.in_ok-line.line.now)) (λ s. drawn_from s.0 s.1 2 [] (lines_left c.next_line.new.self))
opened c =
    ap draft_of (sym c.of-lines.ensures.same_rest) ∙ ap drawing_in c.in_ok-line.ensures.0
    ∙ drawing_step c.in_ok-line.line.now _ (some_piece 10 c.next_line.new.self.rest.now)

pub returns-in_err-inputs : goal.returns-in_err-inputs
returns-in_err-inputs c =
    let p = err_from_is_err_and c.from_residual-in_err-inputs.result c.from_residual-in_err-inputs.ensures.1 in
    broken c.from_residual-in_err-inputs.result p.0 _ _ p.1 p.2
    (opened (goal.at.returns-in_err-inputs c).In_ok-line ∙ ap (λ r. then r (λ s. drawn_from s.0 s.1 2 [] (lines_left c.next_line.new.self))) (sym c.in_err-inputs.ensures))

pub sized-draft-requires : goal.sized-draft-requires
sized-draft-requires c =
    let s = sizes_fit (fields_of c.in_ok-line.line.now) (c.in_ok-inputs.inputs, c.in_ok-inputs.wires) (sym c.in_ok-inputs.ensures) in
    (s.few_inputs, (s.inputs_among, s.few_wires))

pub loop-lines-init : goal.loop-lines-init
loop-lines-init c =
    let m = c.next_line.new.self in
    let second : m.taken + 1 ≡ 2 = omega (arith, c.of-lines.ensures.same_taken, c.in_ok-line.ensures.1) in
    ap (λ (d : Drawing). drawn_from d.inputs d.wires (m.taken + 1) d.blocks (lines_left m)) c.sized-draft.ensures
    ∙ ap (λ k. drawn_from c.in_ok-inputs.inputs c.in_ok-inputs.wires k [] (lines_left m)) second
    ∙ ap (λ r. then r (λ s. drawn_from s.0 s.1 2 [] (lines_left m))) c.in_ok-inputs.ensures
    ∙ sym (opened (goal.at.loop-lines-init c).In_ok-line)

pub returns-in_err-line-2 : goal.returns-in_err-line-2
returns-in_err-line-2 c =
    let p = err_from_is_err_and c.from_residual-in_err-line-2.result c.from_residual-in_err-line-2.ensures.1 in
    let l = c.in_err-line-2.ensures in
    let d = c.loop-lines.draft in
    let from : Result (List Block) Fault → Result Drawing Fault = λ r. then r (λ all. Ok (record { inputs = d.inputs; wires = d.wires; blocks = all })) in
    let some = eqb-false (length c.loop-lines.lines.rest.now) 0 (sym c.loop-lines-test.ensures) in
    broken c.from_residual-in_err-line-2.result p.0 _ _ p.1 (p.2 ∙ l.1)
    (sym c.loop-lines.invariant ∙ ap (drawn_from d.inputs d.wires (c.loop-lines.lines.taken + 1) (take d.count d.blocks)) l.0
    ∙ ap from (blocks_unended _ _ c.loop-lines.lines.rest.now some))

-- one more line was taken, of which block_line tells
stepped : (c : In_ok-line-2) → draft_of c.args.text.now ≡ then (block_line c.next_line-in-loop-lines.new.self.taken c.loop-lines.draft.count (fields_of c.in_ok-line-2.line.now)) (λ b. drawn_from c.loop-lines.draft.inputs c.loop-lines.draft.wires (c.next_line-in-loop-lines.new.self.taken + 1) (take c.loop-lines.draft.count c.loop-lines.draft.blocks ++ b ∷ []) (lines_left c.next_line-in-loop-lines.new.self))
stepped c =
    let d = c.loop-lines.draft in
    let m = c.next_line-in-loop-lines.new.self in
    let line = c.in_ok-line-2.line.now in
    let bs = take d.count d.blocks in
    let on = sym c.in_ok-line-2.ensures.1 in
    let long : length bs ≡ d.count = length-take-le d.count d.blocks (omega (arith, d.few_blocks, d.room)) in
    sym c.loop-lines.invariant ∙ ap (drawn_from d.inputs d.wires (c.loop-lines.lines.taken + 1) bs) c.in_ok-line-2.ensures.0
    ∙ ap (λ k. drawn_from d.inputs d.wires k bs (line ∷ lines_left m)) on
    ∙ drawn_step d.inputs d.wires m.taken bs line (lines_left m) (some_piece 10 m.rest.now)
    ∙ ap (λ n. then (block_line m.taken n (fields_of line)) (λ b. drawn_from d.inputs d.wires (m.taken + 1) (bs ++ b ∷ []) (lines_left m))) long

pub returns-in_err-block : goal.returns-in_err-block
returns-in_err-block c =
    let p = err_from_is_err_and c.from_residual-in_err-block.result c.from_residual-in_err-block.ensures.1 in
    let d = c.loop-lines.draft in
    let m = c.next_line-in-loop-lines.new.self in
    let told : block_line m.taken d.count (fields_of c.in_ok-line-2.line.now) ≡ Err c.in_err-block.field-0.0 = ap (λ k. block_line k d.count (fields_of c.in_ok-line-2.line.now)) (sym c.taken.ensures) ∙ sym c.in_err-block.ensures in
    broken c.from_residual-in_err-block.result p.0 _ _ p.1 p.2
    (stepped (goal.at.returns-in_err-block c).In_ok-line-2 ∙ ap (λ r. then r (λ b. drawn_from d.inputs d.wires (m.taken + 1) (take d.count d.blocks ++ b ∷ []) (lines_left m))) told)

pub loop-lines-preserved : goal.loop-lines-preserved
loop-lines-preserved c =
    let d = c.loop-lines.draft in
    let m = c.next_line-in-loop-lines.new.self in
    let told : block_line m.taken d.count (fields_of c.in_ok-line-2.line.now) ≡ Ok c.in_ok-block.block = ap (λ k. block_line k d.count (fields_of c.in_ok-line-2.line.now)) (sym c.taken.ensures) ∙ sym c.in_ok-block.ensures in
    ap (λ (n : Drawing). drawn_from n.inputs n.wires (m.taken + 1) n.blocks (lines_left m)) c.push.ensures
    ∙ sym (stepped (goal.at.loop-lines-preserved c).In_ok-line-2 ∙ ap (λ r. then r (λ b. drawn_from d.inputs d.wires (m.taken + 1) (take d.count d.blocks ++ b ∷ []) (lines_left m))) told)

pub returns : goal.returns
returns c =
    let d = c.loop-lines.draft in
    let none = nil_from_length c.loop-lines.lines.rest.now (eqb-true (length c.loop-lines.lines.rest.now) 0 (sym c.loop-lines-test.ensures)) in
    let from : Result (List Block) Fault → Result Drawing Fault = λ r. then r (λ all. Ok (record { inputs = d.inputs; wires = d.wires; blocks = all })) in
    sym (sym c.loop-lines.invariant ∙ ap (λ xs. drawn_from d.inputs d.wires (c.loop-lines.lines.taken + 1) (take d.count d.blocks) (pieces 10 xs)) none ∙ ap from (blocks_done _ _))
