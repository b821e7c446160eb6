-- A text is read as a drawing exactly when it is that drawing's text.
use Rattle.std.proofs.Common.{◌≡◌, ℕ, zero, suc, ◌+◌, ◌^◌, ◌<◌, ◌≤◌, cond, eqb, leb, List, [], ◌∷◌, ◌++◌, map, length, get_or, drop, ℤ, pos, negsuc, Ok, Err, codes, decimal, sym, refl, ap, ◌∙◌, subst, append_assoc, append-nil, arith, drop-cons}
use lib.Signed.{mag}
use Rattle.std.specs.List.{flat_map}
use Rattle.std.specs.Fmt.{signed_decimal}
use Rattle.std.proofs.lemmas.List.{drop_all, length-append, length_push, nil_from_length}
use Rattle.std.proofs.lemmas.Bool.{cond-true, cond-false, eqb-true, eq-eqb, lt-leb}
use Rattle.text.specs.declared.fault.Cause.TheVariants.{FieldCount, TooManyBlocks}
use Rattle.text.specs.Numerals.{integer_in}
use Rattle.text.specs.Pieces.{pieces, parted_by, fields_of, field}
use Rattle.text.specs.Results.{then, placed, fault}
use Rattle.text.specs.Walk.{word_in}
use Rattle.text.proofs.Cuts.{Lacks, AllLack, joined_again, cut_again, piece_before, lacks_cons, lacks_parted, lacks_digits, all_lack_append}
use Rattle.text.proofs.NumberLaws.{decimal_digits, integer_only, integer_all}
use Rattle.text.proofs.ResultLaws.{same_ok, never_ok, then_ok, placed_ok, passed, missed}
use Rattle.draft.specs.declared.block.Block.{Block}
use Rattle.draft.specs.declared.block.InPorts.{InPorts}
use Rattle.draft.specs.declared.block.InPorts.TheVariants.{Zero, One as OneIn, Two as TwoIn, Three}
use Rattle.draft.specs.declared.block.OutPorts.{OutPorts}
use Rattle.draft.specs.declared.block.OutPorts.TheVariants.{One as OneOut, Two as TwoOut}
use Rattle.draft.specs.Drawings.{Drawing}
use Rattle.draft.specs.Limits.{most_inputs, most_wires, most_blocks}
use Rattle.draft.specs.Lines.{kind_in, in_ports, out_ports, block_of, block_line, size_in, sizes_of, diagram_line}
use Rattle.draft.specs.Reading.{blocks_of, drawing_in, draft_of}
use Rattle.draft.specs.Text.{in_fields, out_fields, block_fields, diagram_fields, line_of, block_text, text_of, Legible, AllLegible, Drawable, InsLegible, OutsLegible}
use Rattle.draft.proofs.FieldLaws.{word_only, word_all, kind_only, kind_all, size_only, size_all, ins_only, ins_all, outs_only, outs_all, in_three, goes_on}
use Rattle.draft.proofs.ReadingLaws.{blocks_step, blocks_done, drawing_step, drawn_from, room, sizes_fit}

-- a list by its places
abbrev from : ℕ → ℕ → List (List ℕ) → List (List ℕ)
from i zero fs = []
from i (suc n) fs = field fs i ∷ from (suc i) n fs

listed : (n i : ℕ) (fs : List (List ℕ)) → length fs ≡ i + n → drop i fs ≡ from i n fs
listed zero i fs h = drop_all i fs (omega arith)
listed (suc n) i fs h = drop-cons fs i [] (omega arith) ∙ ap (λ l. field fs i ∷ l) (listed n (suc i) fs (omega arith))

-- the fields of a block line, in their places
ins_in_place : (b : Block) → in_three (block_fields b) ≡ in_fields b.inputs
ins_in_place b = by_case b.inputs
  where
    by_case : (p : InPorts) → in_three (codes "block" ∷ decimal b.kind ∷ signed_decimal b.parameter ∷ (in_fields p ++ out_fields b.outputs)) ≡ in_fields p
    by_case Zero = refl
    by_case (OneIn a) = refl
    by_case (TwoIn a c) = refl
    by_case (Three a c d) = refl

after_ins : (p : InPorts) (fs : List (List ℕ)) (i : ℕ) → get_or (in_fields p ++ fs) (suc (suc (suc i))) [] ≡ get_or fs i []
after_ins Zero fs i = refl
after_ins (OneIn a) fs i = refl
after_ins (TwoIn a b) fs i = refl
after_ins (Three a b c) fs i = refl

outs_in_place : (b : Block) → ◌≡◌ {A = List (List ℕ)} (field (block_fields b) 6 ∷ field (block_fields b) 7 ∷ []) (out_fields b.outputs)
outs_in_place b = (λ i. after_ins b.inputs (out_fields b.outputs) 0 i ∷ after_ins b.inputs (out_fields b.outputs) 1 i ∷ []) ∙ by_case b.outputs
  where
    by_case : (q : OutPorts) → ◌≡◌ {A = List (List ℕ)} (get_or (out_fields q) 0 [] ∷ get_or (out_fields q) 1 [] ∷ []) (out_fields q)
    by_case (OneOut a) = refl
    by_case (TwoOut a c) = refl

length_ins : (p : InPorts) → length (in_fields p) ≡ 3
length_ins Zero = refl
length_ins (OneIn a) = refl
length_ins (TwoIn a b) = refl
length_ins (Three a b c) = refl

length_outs : (q : OutPorts) → length (out_fields q) ≡ 2
length_outs (OneOut a) = refl
length_outs (TwoOut a b) = refl

eight_fields : (b : Block) → length (block_fields b) ≡ 8
eight_fields b = omega (arith, length-append (in_fields b.inputs) (out_fields b.outputs), length_ins b.inputs, length_outs b.outputs)

pub block_only : (k n : ℕ) (fs : List (List ℕ)) (b : Block) → block_line k n fs ≡ Ok b → (fs ≡ block_fields b) × Legible b
block_only k n fs b h =
    let w = then_ok (placed k 1 (word_in (codes "block") (field fs 0))) _ b h in
    let few = missed (leb most_blocks n) _ (fault TooManyBlocks k 1) b w.2 in
    let count = passed (eqb (length fs) 8) (block_of k fs) (fault FieldCount k (length fs)) b few.1 in
    let kind = then_ok (placed k 2 (kind_in (field fs 1))) _ b count.1 in
    let parameter = then_ok (placed k 3 (integer_in (field fs 2))) _ b kind.2 in
    let ins = then_ok (in_ports k fs) _ b parameter.2 in
    let outs = then_ok (out_ports k fs) _ b ins.2 in
    let whole : fs ≡ from 0 8 fs = listed 8 0 fs (omega (arith, eqb-true (length fs) 8 count.0)) in
    let kind_is = kind_only (field fs 1) kind.0 (placed_ok k 2 _ kind.0 kind.1) in
    let parameter_is = integer_only (field fs 2) parameter.0 (placed_ok k 3 _ parameter.0 parameter.1) in
    let ins_are = ins_only k fs ins.0 ins.1 in
    let outs_are = outs_only k fs outs.0 outs.1 in
    let made : ◌≡◌ {A = Block} (record { kind = kind.0; parameter = parameter.0; inputs = ins.0; outputs = outs.0 }) b = same_ok outs.2 in
    subst (λ c. (fs ≡ block_fields c) × Legible c) made (
      whole ∙ (λ i. word_only (codes "block") (field fs 0) w.0 (placed_ok k 1 _ w.0 w.1) i ∷ kind_is.0 i ∷ parameter_is.0 i ∷ (ins_are.0 i ++ outs_are.0 i)),
      record { known_range = kind_is.1; signed_range = parameter_is.1; ins = ins_are.1; outs = outs_are.1 },
    )

pub block_all : (k n : ℕ) (b : Block) → Legible b → n < most_blocks → block_line k n (block_fields b) ≡ Ok b
block_all k n b l few =
    let fs = block_fields b in
    goes_on k 1 _ tt _ (word_all (codes "block"))
    ∙ cond-false (leb most_blocks n) (Err (fault TooManyBlocks k 1)) (cond (eqb (length fs) 8) (block_of k fs) (Err (fault FieldCount k (length fs)))) (lt-leb most_blocks n few)
    ∙ cond-true (eqb (length fs) 8) (block_of k fs) (Err (fault FieldCount k (length fs))) (eq-eqb (length fs) 8 (eight_fields b))
    ∙ goes_on k 2 _ b.kind _ (kind_all b.kind l.known_range)
    ∙ goes_on k 3 _ b.parameter _ (integer_all b.parameter l.signed_range)
    ∙ ap (λ r. then r (λ ins. then (out_ports k fs) (λ outs. Ok (record { kind = b.kind; parameter = b.parameter; inputs = ins; outputs = outs })))) (ins_all k fs b.inputs (ins_in_place b, l.ins))
    ∙ ap (λ r. then r (λ outs. Ok (record { kind = b.kind; parameter = b.parameter; inputs = b.inputs; outputs = outs }))) (outs_all k fs b.outputs (outs_in_place b, l.outs))

pub diagram_only : (fs : List (List ℕ)) (s : ℕ × ℕ) → diagram_line fs ≡ Ok s → fs ≡ codes "diagram" ∷ decimal s.0 ∷ decimal s.1 ∷ []
diagram_only fs s h =
    let w = then_ok (placed 1 1 (word_in (codes "diagram") (field fs 0))) _ s h in
    let count = passed (eqb (length fs) 3) (sizes_of 1 fs) (fault FieldCount 1 (length fs)) s w.2 in
    let e = then_ok (placed 1 2 (size_in 0 most_inputs (field fs 1))) _ s count.1 in
    let n = then_ok (placed 1 3 (size_in e.0 most_wires (field fs 2))) _ s e.2 in
    let whole : fs ≡ from 0 3 fs = listed 3 0 fs (omega (arith, eqb-true (length fs) 3 count.0)) in
    let same : ◌≡◌ {A = ℕ × ℕ} (e.0, n.0) s = same_ok n.2 in
    let e_is = size_only 0 most_inputs (field fs 1) e.0 (omega arith) (placed_ok 1 2 _ e.0 e.1) ∙ ap (λ p. decimal p.0) same in
    let w_is = size_only e.0 most_wires (field fs 2) n.0 (omega arith) (placed_ok 1 3 _ n.0 n.1) ∙ ap (λ p. decimal p.1) same in
    whole ∙ (λ i. word_only (codes "diagram") (field fs 0) w.0 (placed_ok 1 1 _ w.0 w.1) i ∷ e_is i ∷ w_is i ∷ [])

pub diagram_all : (d : Drawing) → Drawable d → diagram_line (diagram_fields d) ≡ Ok (d.inputs, d.wires)
diagram_all d h =
    goes_on 1 1 _ tt _ (word_all (codes "diagram"))
    ∙ goes_on 1 2 _ d.inputs _ (size_all 0 most_inputs d.inputs (omega arith) (omega arith) h.few_inputs)
    ∙ goes_on 1 3 _ d.wires _ (size_all d.inputs most_wires d.wires (omega arith) h.inputs_among h.few_wires)

-- no field holds a comma or a line feed
lacks_decimal : (c n : ℕ) → c < 48 → n < 2 ^ 64 → Lacks c (decimal n)
lacks_decimal c n low small = lacks_digits c (decimal n) low (decimal_digits n small)

lacks_signed : (c : ℕ) (z : ℤ) → c < 45 → mag z < 2 ^ 31 → Lacks c (signed_decimal z)
lacks_signed c (pos n) low small = lacks_decimal c n (omega arith) (omega arith)
lacks_signed c (negsuc n) low small = lacks_cons c 45 (decimal (suc n)) (λ e. absurd (omega arith)) (lacks_decimal c (suc n) (omega arith) (omega arith))

ins_lack : (c : ℕ) (p : InPorts) → c < 45 → InsLegible p → AllLack c (in_fields p)
ins_lack c Zero low l = (refl, (refl, (refl, tt)))
ins_lack c (OneIn a) low l = (lacks_decimal c a (omega arith) (omega arith), (refl, (refl, tt)))
ins_lack c (TwoIn a b) low l = (lacks_decimal c a (omega arith) (omega (arith, l.0)), (lacks_decimal c b (omega arith) (omega (arith, l.1)), (refl, tt)))
ins_lack c (Three a b d) low l = (lacks_decimal c a (omega arith) (omega (arith, l.0)), (lacks_decimal c b (omega arith) (omega (arith, l.1)), (lacks_decimal c d (omega arith) (omega (arith, l.2)), tt)))

outs_lack : (c : ℕ) (q : OutPorts) → c < 45 → OutsLegible q → AllLack c (out_fields q)
outs_lack c (OneOut a) low l = (lacks_decimal c a (omega arith) (omega arith), (refl, tt))
outs_lack c (TwoOut a b) low l = (lacks_decimal c a (omega arith) (omega (arith, l.0)), (lacks_decimal c b (omega arith) (omega (arith, l.1)), tt))

block_lacks : (c : ℕ) (b : Block) → c < 45 → Lacks c (codes "block") → Legible b → AllLack c (block_fields b)
block_lacks c b low word l = (
  word,
  (
    lacks_decimal c b.kind (omega arith) (omega (arith, l.known_range)),
    (
      lacks_signed c b.parameter low l.signed_range,
      all_lack_append c (in_fields b.inputs) (out_fields b.outputs) (ins_lack c b.inputs low l.ins) (outs_lack c b.outputs low l.outs),
    ),
  ),
)

diagram_lacks : (c : ℕ) (d : Drawing) → c < 45 → Lacks c (codes "diagram") → Drawable d → AllLack c (diagram_fields d)
diagram_lacks c d low word h = (word, (lacks_decimal c d.inputs (omega arith) (omega (arith, h.few_inputs)), (lacks_decimal c d.wires (omega arith) (omega (arith, h.few_wires)), tt)))

-- a line without its line feed
abbrev bare : Block → List ℕ
bare b = parted_by 44 (block_fields b)

ended : (fields : List (List ℕ)) (rest : List ℕ) → AllLack 10 fields → pieces 10 (line_of fields ++ rest) ≡ parted_by 44 fields ∷ pieces 10 rest
ended fields rest l = ap (pieces 10) (append_assoc (parted_by 44 fields) (10 ∷ []) rest) ∙ piece_before 10 (parted_by 44 fields) rest (lacks_parted 10 44 fields (λ e. absurd (omega arith)) l)

-- the lines of the blocks, and nothing after the last line feed
blocks_cut : (bs : List Block) → AllLegible bs → pieces 10 (flat_map block_text bs) ≡ map bare bs ++ [] ∷ []
blocks_cut [] l = refl
blocks_cut (b ∷ bs) l = ended (block_fields b) (flat_map block_text bs) (block_lacks 10 b (omega arith) refl l.0) ∙ ap (λ ps. bare b ∷ ps) (blocks_cut bs l.1)

some_line : (ps : List (List ℕ)) → 0 < length (ps ++ [] ∷ [])
some_line [] = omega arith
some_line (p ∷ ps) = omega arith

blocks_all : (k : ℕ) (so_far bs : List Block) → AllLegible bs → length so_far + length bs ≤ most_blocks → blocks_of k so_far (map bare bs ++ [] ∷ []) ≡ Ok (so_far ++ bs)
blocks_all k so_far [] l few = blocks_done k so_far ∙ ap Ok (sym (append-nil so_far))
blocks_all k so_far (b ∷ bs) l few =
    let on : length (so_far ++ b ∷ []) + length bs ≤ most_blocks = omega (arith, length_push so_far b) in
    blocks_step k so_far (bare b) (map bare bs ++ [] ∷ []) (some_line (map bare bs))
    ∙ ap (λ r. then r (λ c. blocks_of (k + 1) (so_far ++ c ∷ []) (map bare bs ++ [] ∷ [])))
    (ap (block_line k (length so_far)) (cut_again 44 (block_fields b) (omega arith) (block_lacks 44 b (omega arith) refl l.0)) ∙ block_all k (length so_far) b l.0 (omega arith))
    ∙ blocks_all (k + 1) (so_far ++ b ∷ []) bs l.1 on ∙ ap Ok (append_assoc so_far (b ∷ []) bs)

-- every drawing's text is read back as that drawing
pub draft_all : (d : Drawing) → Drawable d → draft_of (text_of d) ≡ Ok d
unfolding text_of
draft_all d h =
    ap drawing_in (ended (diagram_fields d) (flat_map block_text d.blocks) (diagram_lacks 10 d (omega arith) refl h) ∙ ap (λ ps. parted_by 44 (diagram_fields d) ∷ ps) (blocks_cut d.blocks h.legible))
    ∙ drawing_step (parted_by 44 (diagram_fields d)) _ (some_line (map bare d.blocks))
    ∙ ap (λ r. then r (λ s. drawn_from s.0 s.1 2 [] (map bare d.blocks ++ [] ∷ [])))
    (ap diagram_line (cut_again 44 (diagram_fields d) (omega arith) (diagram_lacks 44 d (omega arith) refl h)) ∙ diagram_all d h)
    ∙ ap (λ r. then r (λ all. Ok (record { inputs = d.inputs; wires = d.wires; blocks = all }))) (blocks_all 2 [] d.blocks h.legible (omega (arith, h.few_blocks)))

-- what the blocks' lines were, when they were accepted after others
record Drawn (k : ℕ) (so_far : List Block) (lines : List (List ℕ)) (all : List Block) : Type 0 where
  new : List Block
  after : all ≡ so_far ++ new
  text : parted_by 10 lines ≡ flat_map block_text new
  legible : AllLegible new
  few : length so_far ≤ most_blocks → length all ≤ most_blocks

blocks_only : (lines : List (List ℕ)) (k : ℕ) (so_far all : List Block) → 0 < length lines → blocks_of k so_far lines ≡ Ok all → Drawn k so_far lines all
unfolding blocks_of
blocks_only [] k so_far all some h = absurd (omega arith)
blocks_only (rest ∷ []) k so_far all some h =
    let e = passed (eqb (length rest) 0) (Ok so_far) (fault FieldCount k 0) all h in
    let same : so_far ≡ all = same_ok e.1 in
    record {
      new = [];
      after = sym same ∙ sym (append-nil so_far);
      text = nil_from_length rest (eqb-true (length rest) 0 e.0);
      legible = tt;
      few = λ n. omega (arith, ap length same);
    }
blocks_only (line ∷ next ∷ more) k so_far all some h =
    let b = then_ok (block_line k (length so_far) (fields_of line)) _ all h in
    let is = block_only k (length so_far) (fields_of line) b.0 b.1 in
    let there_was = room k (length so_far) (fields_of line) b.0 b.1 in
    let rest = blocks_only (next ∷ more) (k + 1) (so_far ++ b.0 ∷ []) all (omega arith) b.2 in
    record {
      new = b.0 ∷ rest.new;
      after = rest.after ∙ append_assoc so_far (b.0 ∷ []) rest.new;
      text =
          (λ i. (sym (joined_again 44 line) ∙ ap (parted_by 44) is.0) i ++ 10 ∷ rest.text i)
          ∙ sym (append_assoc (parted_by 44 (block_fields b.0)) (10 ∷ []) (flat_map block_text rest.new));
      legible = (is.1, rest.legible);
      few = λ n. rest.few (omega (arith, length_push so_far b.0));
    }

-- an accepted text is its drawing's
pub draft_only : (text : List ℕ) (d : Drawing) → draft_of text ≡ Ok d → (text ≡ text_of d) × Drawable d
unfolding text_of drawing_in
draft_only text d h = by_lines (pieces 10 text) refl h
  where
    by_lines : (lines : List (List ℕ)) → pieces 10 text ≡ lines → drawing_in lines ≡ Ok d → (text ≡ text_of d) × Drawable d
    by_lines [] cut e = never_ok e
    by_lines (rest ∷ []) cut e = never_ok e
    by_lines (line ∷ next ∷ more) cut e =
        let s = then_ok (diagram_line (fields_of line)) _ d e in
        let bs = then_ok (blocks_of 2 [] (next ∷ more)) _ d s.2 in
        let sized = sizes_fit (fields_of line) s.0 s.1 in
        let drawn = blocks_only (next ∷ more) 2 [] bs.0 (omega arith) bs.1 in
        let d_is : ◌≡◌ {A = Drawing} (record { inputs = s.0.0; wires = s.0.1; blocks = bs.0 }) d = same_ok bs.2 in
        let new_is : bs.0 ≡ drawn.new = drawn.after in
        subst (λ c. (text ≡ text_of c) × Drawable c) d_is (
          sym (joined_again 10 text) ∙ ap (parted_by 10) cut
              ∙ (λ i. (sym (joined_again 44 line) ∙ ap (parted_by 44) (diagram_only (fields_of line) s.0 s.1)) i ++ 10 ∷ (drawn.text ∙ ap (flat_map block_text) (sym new_is)) i)
              ∙ sym (append_assoc (parted_by 44 (codes "diagram" ∷ decimal s.0.0 ∷ decimal s.0.1 ∷ [])) (10 ∷ []) (flat_map block_text bs.0)),
          record {
            few_inputs = sized.few_inputs;
            inputs_among = sized.inputs_among;
            few_wires = sized.few_wires;
            few_blocks = drawn.few (omega arith);
            legible = subst AllLegible (sym new_is) drawn.legible;
          },
        )
