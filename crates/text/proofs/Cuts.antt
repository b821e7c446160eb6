-- Laws of cutting and joining: a text is cut into pieces that lack the byte, and joining them gives it back.
use Rattle.std.proofs.Common.{◌≡◌, ℕ, suc, ◌+◌, ◌-◌, ◌<◌, ◌≤◌, Bool, true, false, cond, eqb, leb, List, [], ◌∷◌, ◌++◌, length, get_or, take, drop, Some, None, Option, position, sym, refl, ap, ◌∙◌, ⊎_elim, add-one, arith}
use Rattle.std.specs.Char.{is_ascii_digit}
use Rattle.std.specs.Str.{all_ascii_digits}
use Rattle.std.proofs.lemmas.List.{length-drop, drop-drop, take_all, take_rest}
use Rattle.std.specs.Borrow.{Bor}
use Rattle.std.specs.Option.{unwrap_or}
use Rattle.std.specs.Slice.{IsGetRangeResult}
use Rattle.std.specs.List.{count_by, position_or_len}
use Rattle.std.proofs.lemmas.List.Recursion.{is_count_by, is_position_or_len}
use Rattle.std.proofs.lemmas.Bool.{cases_lt, cases_Bool, eqb-true, eqb-false, eq-eqb, ne_eqb, lt-ltb, le-ltb, and_parts, leb-true}
use Rattle.text.specs.Pieces.{before, longer, pieces, parted_by, pieces_left}

length_longer : (x : ℕ) (ps : List (List ℕ)) → 0 < length ps → length (longer x ps) ≡ length ps
length_longer x [] h = absurd (omega arith)
length_longer x (p ∷ ps) h = refl

pub some_piece : (b : ℕ) (xs : List ℕ) → 0 < length (pieces b xs)
some_piece b [] = omega arith
some_piece b (x ∷ xs) =
    elim (eqb x b) as (λ t. 0 < length (cond t ([] ∷ pieces b xs) (longer x (pieces b xs)))) [
      | true ↦ omega arith
      | false ↦ omega (arith, length_longer x (pieces b xs) (some_piece b xs), some_piece b xs)
    ]

-- one byte on: a cut adds a piece, any other byte none
pub length_pieces : (b x : ℕ) (xs : List ℕ) → length (pieces b (x ∷ xs)) ≡ cond (eqb x b) 1 0 + length (pieces b xs)
length_pieces b x xs =
    elim (eqb x b) as (λ t. length (cond t ([] ∷ pieces b xs) (longer x (pieces b xs))) ≡ cond t 1 0 + length (pieces b xs)) [
      | true ↦ omega arith
      | false ↦ omega (arith, length_longer x (pieces b xs) (some_piece b xs))
    ]

-- the number of cuts
pub pieces_count : (b : ℕ) (xs : List ℕ) → length (pieces b xs) ≡ count_by (λ x. eqb x b) xs + 1
pieces_count b xs = omega (arith, some_piece b xs, is_count_by (λ ys. length (pieces b ys) - 1) (λ x. eqb x b) refl step xs)
  where
    step : (x : ℕ) (ys : List ℕ) → length (pieces b (x ∷ ys)) - 1 ≡ cond (eqb x b) (1 + (length (pieces b ys) - 1)) (length (pieces b ys) - 1)
    step x ys =
        let some = some_piece b ys in
        ap (λ n. n - 1) (length_pieces b x ys)
        ∙ elim (eqb x b) as (λ t. cond t 1 0 + length (pieces b ys) - 1 ≡ cond t (1 + (length (pieces b ys) - 1)) (length (pieces b ys) - 1)) [ true ↦ omega arith | false ↦ omega arith ]

-- at most one piece more than there are bytes
pub few_pieces : (b : ℕ) (xs : List ℕ) → length (pieces b xs) ≤ length xs + 1
few_pieces b [] = omega arith
few_pieces b (x ∷ xs) = omega (arith, length_pieces b x xs, few_pieces b xs, at_most_one (eqb x b))
  where
    at_most_one : (t : Bool) → cond {A = ℕ} t 1 0 ≤ 1
    at_most_one true = omega arith
    at_most_one false = omega arith

pub before_within : (b : ℕ) (xs : List ℕ) → before b xs ≤ length xs
before_within b [] = omega arith
before_within b (x ∷ xs) =
    elim (eqb x b) as (λ t. cond t 0 (suc (before b xs)) ≤ suc (length xs)) [ true ↦ omega arith | false ↦ omega (arith, before_within b xs) ]

-- what stands before the first b is its position, or everything
pub before_found : (b : ℕ) (xs : List ℕ) → unwrap_or (position (λ x. eqb x b) xs) (length xs) ≡ before b xs
before_found b xs =
    let at : ℕ = position_or_len (λ x. eqb x b) xs in
    let is : before b xs ≡ at = is_position_or_len (before b) (λ x. eqb x b) refl (λ x ys. ap (λ n. cond (eqb x b) 0 n) (omega arith)) xs in
    ⊎_elim
    (λ l. ap (λ t. unwrap_or (cond t (Some at) None) (length xs)) (lt-ltb at (length xs) l) ∙ sym is)
    (λ l. ap (λ t. unwrap_or (cond t (Some at) None) (length xs)) (le-ltb at (length xs) l) ∙ omega (arith, before_within b xs))
    (cases_lt at (length xs))

longer_head : (x : ℕ) (ps : List (List ℕ)) → get_or (longer x ps) 0 [] ≡ x ∷ get_or ps 0 []
longer_head x [] = refl
longer_head x (p ∷ ps) = refl

longer_rest : (x : ℕ) (ps : List (List ℕ)) → 0 < length ps → drop 1 (longer x ps) ≡ drop 1 ps
longer_rest x [] h = absurd (omega arith)
longer_rest x (p ∷ ps) h = refl

-- the first piece is what stands before the first cut
pub first_piece : (b : ℕ) (xs : List ℕ) → get_or (pieces b xs) 0 [] ≡ take (before b xs) xs
first_piece b [] = refl
first_piece b (x ∷ xs) =
    elim (eqb x b) as (λ t. get_or (cond t ([] ∷ pieces b xs) (longer x (pieces b xs))) 0 [] ≡ take (cond t 0 (suc (before b xs))) (x ∷ xs)) [
      | true ↦ refl
      | false ↦ longer_head x (pieces b xs) ∙ ap (λ p. x ∷ p) (first_piece b xs)
    ]

-- the other pieces are those of what follows that cut
pub later_pieces : (b : ℕ) (xs : List ℕ) → before b xs < length xs → drop 1 (pieces b xs) ≡ pieces b (drop (suc (before b xs)) xs)
later_pieces b [] h = absurd (omega arith)
later_pieces b (x ∷ xs) h =
    (elim (eqb x b) as (λ t. cond t 0 (suc (before b xs)) < suc (length xs) → drop 1 (cond t ([] ∷ pieces b xs) (longer x (pieces b xs))) ≡ pieces b (drop (suc (cond t 0 (suc (before b xs)))) (x ∷ xs))) [
      | true ↦ λ h. refl
      | false ↦ λ h. longer_rest x (pieces b xs) (some_piece b xs) ∙ later_pieces b xs (omega arith)
    ]) h

-- without a cut there is one piece
pub no_later_pieces : (b : ℕ) (xs : List ℕ) → length xs ≤ before b xs → drop 1 (pieces b xs) ≡ []
no_later_pieces b [] h = refl
no_later_pieces b (x ∷ xs) h =
    (elim (eqb x b) as (λ t. suc (length xs) ≤ cond t 0 (suc (before b xs)) → drop 1 (cond t ([] ∷ pieces b xs) (longer x (pieces b xs))) ≡ []) [
      | true ↦ λ h. absurd (omega arith)
      | false ↦ λ h. longer_rest x (pieces b xs) (some_piece b xs) ∙ no_later_pieces b xs (omega arith)
    ]) h

head_and_rest : (ps : List (List ℕ)) → 0 < length ps → ps ≡ get_or ps 0 [] ∷ drop 1 ps
head_and_rest [] h = absurd (omega arith)
head_and_rest (p ∷ ps) h = refl

pub cut_found : (b : ℕ) (xs : List ℕ) → before b xs < length xs → pieces b xs ≡ take (before b xs) xs ∷ pieces b (drop (suc (before b xs)) xs)
cut_found b xs h = head_and_rest (pieces b xs) (some_piece b xs) ∙ (λ i. first_piece b xs i ∷ later_pieces b xs h i)

pub cut_none : (b : ℕ) (xs : List ℕ) → length xs ≤ before b xs → pieces b xs ≡ xs ∷ []
cut_none b xs h =
    let whole : before b xs ≡ length xs = omega (arith, before_within b xs) in
    head_and_rest (pieces b xs) (some_piece b xs) ∙ (λ i. (first_piece b xs ∙ ap (λ n. take n xs) whole ∙ take_all (length xs) xs (omega arith)) i ∷ no_later_pieces b xs h i)

-- cut as the code cuts: what follows the cut is what `get(1..)` gives of the rest
pub cut_by_get : (b : ℕ) (xs : List ℕ) (r : Option (Bor (List ℕ))) → IsGetRangeResult (drop (before b xs) xs) 1 (length (drop (before b xs) xs)) r → pieces b xs ≡ take (before b xs) xs ∷ pieces_left b r
cut_by_get b xs None g =
    let long = length-drop (before b xs) xs in
    let none : length xs ≤ before b xs = omega (arith, g.0) in
    cut_none b xs none ∙ ap (λ ys. ys ∷ []) (sym (take_all (before b xs) xs none))
cut_by_get b xs (Some x) g =
    let long = length-drop (before b xs) xs in
    cut_found b xs (omega arith)
    ∙ ap (λ ys. take (before b xs) xs ∷ pieces b ys) (ap (λ n. drop n xs) (sym (add-one (before b xs))) ∙ sym (drop-drop 1 (before b xs) xs) ∙ sym (take_rest (drop (before b xs) xs) 1) ∙ sym g.0.2)

parted_cut : (b : ℕ) (ps : List (List ℕ)) → 0 < length ps → parted_by b ([] ∷ ps) ≡ b ∷ parted_by b ps
parted_cut b [] h = absurd (omega arith)
parted_cut b (p ∷ ps) h = refl

parted_longer : (b x : ℕ) (ps : List (List ℕ)) → 0 < length ps → parted_by b (longer x ps) ≡ x ∷ parted_by b ps
parted_longer b x [] h = absurd (omega arith)
parted_longer b x (p ∷ []) h = refl
parted_longer b x (p ∷ q ∷ ps) h = refl

-- joining the pieces gives the text back
pub joined_again : (b : ℕ) (xs : List ℕ) → parted_by b (pieces b xs) ≡ xs
joined_again b [] = refl
joined_again b (x ∷ xs) =
    ⊎_elim
    (λ e. ap (λ t. parted_by b (cond t ([] ∷ pieces b xs) (longer x (pieces b xs)))) e ∙ parted_cut b (pieces b xs) (some_piece b xs) ∙ (λ i. sym (eqb-true x b e) i ∷ joined_again b xs i))
    (λ e. ap (λ t. parted_by b (cond t ([] ∷ pieces b xs) (longer x (pieces b xs)))) e ∙ parted_longer b x (pieces b xs) (some_piece b xs) ∙ ap (λ ys. x ∷ ys) (joined_again b xs))
    (cases_Bool (eqb x b))

-- so the only piece is the whole text
pub only_piece : (b : ℕ) (xs p : List ℕ) → pieces b xs ≡ p ∷ [] → pieces b xs ≡ xs ∷ []
only_piece b xs p h = h ∙ ap (λ q. q ∷ []) (ap (parted_by b) (sym h) ∙ joined_again b xs)

-- no b in it
abbrev pub Lacks : ℕ → List ℕ → Type 0
Lacks b xs = before b xs ≡ length xs

abbrev pub AllLack : ℕ → List (List ℕ) → Type 0
AllLack b [] = Unit {0}
AllLack b (p ∷ ps) = Lacks b p × AllLack b ps

lacks_first : (b x : ℕ) (xs : List ℕ) → Lacks b (x ∷ xs) → (eqb x b ≡ false) × Lacks b xs
lacks_first b x xs =
    elim (eqb x b) as (λ t. cond t 0 (suc (before b xs)) ≡ suc (length xs) → (t ≡ false) × Lacks b xs) [
      | true ↦ λ h. absurd (omega arith)
      | false ↦ λ h. (refl, omega arith)
    ]

-- what lacks b is one piece, alone or before a b
pub lone_piece : (b : ℕ) (p : List ℕ) → Lacks b p → pieces b p ≡ p ∷ []
lone_piece b p h = cut_none b p (omega arith)

pub piece_before : (b : ℕ) (p ys : List ℕ) → Lacks b p → pieces b (p ++ b ∷ ys) ≡ p ∷ pieces b ys
piece_before b [] ys h = ap (λ t. cond t ([] ∷ pieces b ys) (longer b (pieces b ys))) (eq-eqb b b refl)
piece_before b (x ∷ p) ys h =
    let first = lacks_first b x p h in
    ap (λ t. cond t ([] ∷ pieces b (p ++ b ∷ ys)) (longer x (pieces b (p ++ b ∷ ys)))) first.0 ∙ ap (longer x) (piece_before b p ys first.1)

-- cutting joined pieces that lack b gives them back
pub cut_again : (b : ℕ) (ps : List (List ℕ)) → 0 < length ps → AllLack b ps → pieces b (parted_by b ps) ≡ ps
cut_again b [] some h = absurd (omega arith)
cut_again b (p ∷ []) some h = lone_piece b p h.0
cut_again b (p ∷ q ∷ ps) some h = piece_before b p (parted_by b (q ∷ ps)) h.0 ∙ ap (λ qs. p ∷ qs) (cut_again b (q ∷ ps) (omega arith) h.1)

pub lacks_cons : (b x : ℕ) (xs : List ℕ) → (x ≡ b → ⊥) → Lacks b xs → Lacks b (x ∷ xs)
lacks_cons b x xs other h = ap (λ t. cond t 0 (suc (before b xs))) (ne_eqb x b other) ∙ ap suc h

pub lacks_append : (b : ℕ) (xs ys : List ℕ) → Lacks b xs → Lacks b ys → Lacks b (xs ++ ys)
lacks_append b [] ys h k = k
lacks_append b (x ∷ xs) ys h k =
    let first = lacks_first b x xs h in
    lacks_cons b x (xs ++ ys) (eqb-false x b first.0) (lacks_append b xs ys first.1 k)

-- joined by another byte, pieces that lack b lack it together
pub lacks_parted : (b c : ℕ) (ps : List (List ℕ)) → (c ≡ b → ⊥) → AllLack b ps → Lacks b (parted_by c ps)
lacks_parted b c [] other h = refl
lacks_parted b c (p ∷ []) other h = h.0
lacks_parted b c (p ∷ q ∷ ps) other h = lacks_append b p (c ∷ parted_by c (q ∷ ps)) h.0 (lacks_cons b c (parted_by c (q ∷ ps)) other (lacks_parted b c (q ∷ ps) other h.1))

-- digits lack every byte below them
pub lacks_digits : (b : ℕ) (ds : List ℕ) → b < 48 → all_ascii_digits ds ≡ true → Lacks b ds
lacks_digits b [] low h = refl
lacks_digits b (d ∷ ds) low h =
    let parts = and_parts (is_ascii_digit d) (all_ascii_digits ds) h in
    lacks_cons b d ds (λ e. absurd (omega (arith, leb-true 48 d (and_parts (leb 48 d) (leb d 57) parts.0).0))) (lacks_digits b ds low parts.1)

pub all_lack_append : (b : ℕ) (ps qs : List (List ℕ)) → AllLack b ps → AllLack b qs → AllLack b (ps ++ qs)
all_lack_append b [] qs h k = k
all_lack_append b (p ∷ ps) qs h k = (h.0, all_lack_append b ps qs h.1 k)
