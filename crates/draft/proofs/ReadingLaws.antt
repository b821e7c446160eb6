-- How a reading goes on from line to line, and what holds of what it accepted.
use Rattle.std.proofs.Common.{◌≡◌, ℕ, ◌+◌, ◌^◌, ◌<◌, ◌≤◌, eqb, leb, List, [], ◌∷◌, ◌++◌, length, Ok, Err, codes, Result, refl, ap, ◌∙◌, arith}
use Rattle.std.proofs.lemmas.Bool.{leb-true, leb-false, cond-false, ne_eqb}
use Rattle.text.specs.declared.fault.Cause.TheVariants.{Range, FieldCount, TooManyBlocks}
use Rattle.text.specs.declared.fault.Fault.{Fault}
use Rattle.text.specs.Numerals.{number_in}
use Rattle.text.specs.Pieces.{fields_of, field}
use Rattle.text.specs.Results.{then, placed, fault}
use Rattle.text.specs.Walk.{word_in}
use Rattle.text.proofs.NumberLaws.{number_only}
use Rattle.text.proofs.ResultLaws.{same_ok, then_ok, then_then, placed_ok, passed, missed}
use Rattle.draft.specs.declared.block.Block.{Block}
use Rattle.draft.specs.Drawings.{Drawing}
use Rattle.draft.specs.Limits.{most_inputs, most_wires, most_blocks}
use Rattle.draft.specs.Lines.{block_line, size_in, sizes_of, diagram_line}
use Rattle.draft.specs.Reading.{blocks_of, drawing_in}

-- a line, when others or the rest follow
pub blocks_step : (k : ℕ) (bs : List Block) (line : List ℕ) (more : List (List ℕ)) → 0 < length more → blocks_of k bs (line ∷ more) ≡ then (block_line k (length bs) (fields_of line)) (λ b. blocks_of (k + 1) (bs ++ b ∷ []) more)
unfolding blocks_of
blocks_step k bs line [] h = absurd (omega arith)
blocks_step k bs line (next ∷ more) h = refl

pub blocks_done : (k : ℕ) (bs : List Block) → blocks_of k bs ([] ∷ []) ≡ Ok bs
unfolding blocks_of
blocks_done k bs = refl

pub blocks_unended : (k : ℕ) (bs : List Block) (rest : List ℕ) → (length rest ≡ 0 → ⊥) → blocks_of k bs (rest ∷ []) ≡ Err (fault FieldCount k 0)
unfolding blocks_of
blocks_unended k bs rest h = cond-false (eqb (length rest) 0) (Ok bs) (Err (fault FieldCount k 0)) (ne_eqb (length rest) 0 h)

-- the drawing that begins with this many inputs and wires
abbrev pub drawn_from : ℕ → ℕ → ℕ → List Block → List (List ℕ) → Result Drawing Fault
drawn_from e w k bs more = then (blocks_of k bs more) (λ all. Ok (record { inputs = e; wires = w; blocks = all }))

pub drawn_step : (e w k : ℕ) (bs : List Block) (line : List ℕ) (more : List (List ℕ)) → 0 < length more → drawn_from e w k bs (line ∷ more) ≡ then (block_line k (length bs) (fields_of line)) (λ b. drawn_from e w (k + 1) (bs ++ b ∷ []) more)
drawn_step e w k bs line more h =
    ap (λ r. then r (λ all. Ok (record { inputs = e; wires = w; blocks = all }))) (blocks_step k bs line more h)
    ∙ then_then (block_line k (length bs) (fields_of line)) (λ b. blocks_of (k + 1) (bs ++ b ∷ []) more) (λ all. Ok (record { inputs = e; wires = w; blocks = all }))

pub drawing_step : (line : List ℕ) (more : List (List ℕ)) → 0 < length more → drawing_in (line ∷ more) ≡ then (diagram_line (fields_of line)) (λ s. drawn_from s.0 s.1 2 [] more)
unfolding drawing_in
drawing_step line [] h = absurd (omega arith)
drawing_step line (next ∷ more) h = refl

pub drawing_unended : (rest : List ℕ) → drawing_in (rest ∷ []) ≡ Err (fault FieldCount 1 0)
unfolding drawing_in
drawing_unended rest = refl

-- there was room for an accepted block
pub room : (k n : ℕ) (fs : List (List ℕ)) (b : Block) → block_line k n fs ≡ Ok b → n < most_blocks
room k n fs b h =
    let after_word = then_ok (placed k 1 (word_in (codes "block") (field fs 0))) _ b h in
    leb-false most_blocks n (missed (leb most_blocks n) _ (fault TooManyBlocks k 1) b after_word.2).0

pub size_fits : (least most : ℕ) (f : List ℕ) (n : ℕ) → most < 2 ^ 64 → size_in least most f ≡ Ok n → (least ≤ n) × (n ≤ most)
unfolding size_in
size_fits least most f n small h =
    let m = then_ok (number_in most f) _ n h in
    let t = passed (leb least m.0) _ Range n m.2 in
    let same : m.0 ≡ n = same_ok t.1 in
    (omega (arith, leb-true least m.0 t.0), omega (arith, (number_only most f m.0 small m.1).1))

pub record Sized (e w : ℕ) : Type 0 where
  pub few_inputs : e ≤ most_inputs
  pub inputs_among : e ≤ w
  pub few_wires : w ≤ most_wires

pub sizes_fit : (fs : List (List ℕ)) (s : ℕ × ℕ) → diagram_line fs ≡ Ok s → Sized s.0 s.1
sizes_fit fs s h =
    let after_word = then_ok (placed 1 1 (word_in (codes "diagram") (field fs 0))) _ s h in
    let counted = passed (eqb (length fs) 3) (sizes_of 1 fs) (fault FieldCount 1 (length fs)) s after_word.2 in
    let e = then_ok (placed 1 2 (size_in 0 most_inputs (field fs 1))) _ s counted.1 in
    let w = then_ok (placed 1 3 (size_in e.0 most_wires (field fs 2))) _ s e.2 in
    let e_fits = size_fits 0 most_inputs (field fs 1) e.0 (omega arith) (placed_ok 1 2 _ e.0 e.1) in
    let w_Fits = size_fits e.0 most_wires (field fs 2) w.0 (omega arith) (placed_ok 1 3 _ w.0 w.1) in
    let same : ◌≡◌ {A = ℕ × ℕ} (e.0, w.0) s = same_ok w.2 in
    let e_is : e.0 ≡ s.0 = ap (λ p. p.0) same in
    let w_is : w.0 ≡ s.1 = ap (λ p. p.1) same in
    record { few_inputs = omega (arith, e_fits.1); inputs_among = omega (arith, w_Fits.0); few_wires = omega (arith, w_Fits.1) }
