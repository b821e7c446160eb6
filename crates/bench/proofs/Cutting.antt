-- What comes before the first tick line, line by line.
use Rattle.std.proofs.Common.{◌≡◌, ℕ, ◌+◌, ◌<◌, Bool, true, false, cond, List, [], ◌∷◌, ◌++◌, length, codes, sym, refl, ap, ◌∙◌, arith}
use Rattle.std.proofs.lemmas.List.{length-append}
use Rattle.std.proofs.lemmas.Bool.{cond-true, cond-false}
use Rattle.text.specs.LineWalk.{first_is}
use Rattle.text.specs.Pieces.{pieces, parted_by, field}
use Rattle.text.proofs.Cuts.{some_piece, joined_again}
use Rattle.bench.specs.Lists.{before_ticks}

-- the first piece is a tick line
pub at_ticks : (ps : List (List ℕ)) → first_is (codes "tick") (field ps 0) ≡ true → before_ticks ps ≡ 0
unfolding before_ticks
at_ticks [] h = refl
at_ticks (p ∷ []) h = cond-true (first_is (codes "tick") p) 0 (length p) h
at_ticks (p ∷ q ∷ ps) h = cond-true (first_is (codes "tick") p) 0 (length p + 1 + before_ticks (q ∷ ps)) h

-- it is not, and it is the last
pub last_line : (p : List ℕ) → first_is (codes "tick") p ≡ false → before_ticks (p ∷ []) ≡ length p
unfolding before_ticks
last_line p h = cond-false (first_is (codes "tick") p) 0 (length p) h

-- nothing is left
pub at_end : before_ticks ([] ∷ []) ≡ 0
unfolding before_ticks
at_end = same (first_is (codes "tick") [])
  where
    same : (b : Bool) → cond {A = ℕ} b 0 0 ≡ 0
    same true = refl
    same false = refl

-- it is not, and others follow
pub one_line : (p : List ℕ) (ps : List (List ℕ)) → 0 < length ps → first_is (codes "tick") p ≡ false → before_ticks (p ∷ ps) ≡ length p + 1 + before_ticks ps
unfolding before_ticks
one_line p [] some h = absurd (omega (arith, some))
one_line p (q ∷ ps) some h = cond-false (first_is (codes "tick") p) 0 (length p + 1 + before_ticks (q ∷ ps)) h

-- a line and its line feed are the text before what is left
parted_more : (p : List ℕ) (ps : List (List ℕ)) → 0 < length ps → parted_by 10 (p ∷ ps) ≡ p ++ 10 ∷ parted_by 10 ps
parted_more p [] some = absurd (omega (arith, some))
parted_more p (q ∷ ps) some = refl

pub line_length : (text line rest : List ℕ) → pieces 10 text ≡ line ∷ pieces 10 rest → length text ≡ length line + 1 + length rest
line_length text line rest is =
    let whole : text ≡ line ++ 10 ∷ rest = sym (joined_again 10 text) ∙ ap (parted_by 10) is ∙ parted_more line (pieces 10 rest) (some_piece 10 rest) ∙ ap (λ r. line ++ 10 ∷ r) (joined_again 10 rest) in
    ap length whole ∙ length-append line (10 ∷ rest) ∙ omega arith
