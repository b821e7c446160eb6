-- The fields of a line, with commas between them.
use Rattle.std.proofs.Common.{◌≡◌, ℕ, List, [], ◌∷◌, ◌++◌, codes, decimal, sym, ap, ◌∙◌, append-nil, append_assoc}
use Rattle.std.specs.Fmt.{signed_decimal}
use Rattle.std.proofs.lemmas.Grind.{flat_map-append}
use Rattle.text.specs.Pieces.{parted_by}
use Rattle.draft.specs.declared.block.Block.{Block}
use Rattle.draft.specs.Text.{in_fields, out_fields, block_text}
use Rattle.diagram.specs.Lines.{after_commas}

after_first : (f : List ℕ) (fs : List (List ℕ)) → parted_by 44 (f ∷ fs) ≡ f ++ after_commas fs
after_first f [] = sym (append-nil f)
after_first f (g ∷ fs) = ap (λ t. f ++ 44 ∷ t) (after_first g fs)

assembled : (t w k p i o f : List ℕ) → (((((t ++ w) ++ k) ++ p) ++ i) ++ o) ++ f ≡ t ++ ((w ++ (k ++ (p ++ (i ++ o)))) ++ f)
assembled t w k p i o f = simp append_assoc

-- a block's line after a text, from the left, as it is written
pub block_after : (t : List ℕ) (b : Block) → (((((t ++ codes "block") ++ 44 ∷ decimal b.kind) ++ 44 ∷ signed_decimal b.parameter) ++ after_commas (in_fields b.inputs)) ++ after_commas (out_fields b.outputs)) ++ 10 ∷ [] ≡ t ++ block_text b
block_after t b =
    let k = 44 ∷ decimal b.kind in
    let z = signed_decimal b.parameter in
    let parted = after_first z (in_fields b.inputs ++ out_fields b.outputs) ∙ ap (λ x. z ++ x) (flat_map-append (λ f. 44 ∷ f) (in_fields b.inputs) (out_fields b.outputs)) in
    assembled t (codes "block") k (44 ∷ z) (after_commas (in_fields b.inputs)) (after_commas (out_fields b.outputs)) (10 ∷ [])
    ∙ ap (λ x. t ++ ((codes "block" ++ (k ++ 44 ∷ x)) ++ 10 ∷ [])) (sym parted)
