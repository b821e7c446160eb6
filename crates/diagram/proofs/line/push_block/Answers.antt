use Rattle.std.proofs.Common.{◌≡◌, [], ◌∷◌, ◌++◌, codes, decimal, arith, w32, SFits, rules}
use Rattle.std.specs.Fmt.{signed_decimal}
use Rattle.std.proofs.lemmas.Int.{to_z-of_z}
use Rattle.draft.specs.Text.{in_fields, out_fields}
use Rattle.diagram.specs.Lines.{after_commas}
use Rattle.diagram.proofs.LineFields.{block_after}
use Rattle.diagram.proofs.line.push_block.Goals as goal

pub returns-clause-bytes : goal.returns-clause-bytes
returns-clause-bytes c =
    let t = c.args.text.now.bytes in
    let b = c.args.block.now in
    let fits : SFits w32 b.parameter = search rules in
    let word : c.push_str.new.self.bytes ≡ t ++ codes "block" = c.push_str.ensures.bytes in
    let kind : c.push_field.new.text.bytes ≡ c.push_str.new.self.bytes ++ 44 ∷ decimal b.kind = c.push_field.ensures.bytes in
    let parameter : c.push_field-2.new.text.bytes ≡ c.push_field.new.text.bytes ++ 44 ∷ signed_decimal b.parameter = simp to_z-of_z at c.push_field-2.ensures.bytes in
    let ins : c.push_in_fields.new.text.bytes ≡ c.push_field-2.new.text.bytes ++ after_commas (in_fields b.inputs) = c.push_in_fields.ensures.bytes in
    let outs : c.push_out_fields.new.text.bytes ≡ c.push_in_fields.new.text.bytes ++ after_commas (out_fields b.outputs) = c.push_out_fields.ensures.bytes in
    let feed : c.push.new.self.bytes ≡ c.push_out_fields.new.text.bytes ++ 10 ∷ [] = c.push.ensures.ascii (omega arith) in
    rw (feed, outs, ins, parameter, kind, word) (block_after t b)
