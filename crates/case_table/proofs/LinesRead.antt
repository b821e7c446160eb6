-- The lines that a reader gives one by one are the lines of its text.
use Rattle.std.proofs.Common.{◌≡◌, ◌⊎◌, inl, inr, ℕ, ◌-◌, ◌<◌, Bool, true, false, cond, eqb, ◌&&◌, List, [], ◌∷◌, ◌++◌, length, get_or, take, All, sym, refl, ap, ◌∙◌, arith, length-append, ne_eqb, eqb-true, lt-ltb}
use Rattle.std.specs.List.{slice_split}
use Rattle.std.specs.Str.Lines.{lines, lines_of_parts, strip_carriage_return}
use Rattle.std.specs.Io.BufRead.{take_through, drop_through, ends_with_byte, strip_last, first_line}
use Rattle.std.proofs.lemmas.List.Elements.{All-nil, All-cons}
use Rattle.std.proofs.lemmas.List.Splits.{slice_split_none, slice_split_at, length-slice_split}
use Rattle.std.proofs.Math.Seq.{get_or-append_seam, take-append_seam}

abbrev is_feed : ℕ → Bool
is_feed b = eqb b 10

-- a text that has a line feed, cut at its first one
record Feeds (bs : List ℕ) : Type 0 where
  line : List ℕ
  rest : List ℕ
  whole : bs ≡ line ++ 10 ∷ rest
  lacks : All (λ b. is_feed b ≡ false) line
  front : take_through 10 bs ≡ line ++ 10 ∷ []
  after : drop_through 10 bs ≡ rest

-- a text that has none
record FeedsNot (bs : List ℕ) : Type 0 where
  lacks : All (λ b. is_feed b ≡ false) bs
  front : take_through 10 bs ≡ bs
  after : drop_through 10 bs ≡ []

abbrev Cut : List ℕ → Type 0
Cut bs = Feeds bs ⊎ FeedsNot bs

cut_more : (b : ℕ) (bs : List ℕ) (t : Bool) → is_feed b ≡ t → Cut bs → Cut (b ∷ bs)
cut_more b bs true is c = inl (record {
  line = [];
  rest = bs;
  whole = ap (λ x. x ∷ bs) (eqb-true b 10 is);
  lacks = All-nil (λ x. is_feed x ≡ false);
  front = ap (λ t. cond t (b ∷ []) (b ∷ take_through 10 bs)) is ∙ ap (λ x. x ∷ []) (eqb-true b 10 is);
  after = ap (λ t. cond t bs (drop_through 10 bs)) is;
})
cut_more b bs false is (inl f) = inl (record {
  line = b ∷ f.line;
  rest = f.rest;
  whole = ap (λ xs. b ∷ xs) f.whole;
  lacks = All-cons (λ x. is_feed x ≡ false) b f.line is f.lacks;
  front = ap (λ t. cond t (b ∷ []) (b ∷ take_through 10 bs)) is ∙ ap (λ xs. b ∷ xs) f.front;
  after = ap (λ t. cond t bs (drop_through 10 bs)) is ∙ f.after;
})
cut_more b bs false is (inr f) = inr (record {
  lacks = All-cons (λ x. is_feed x ≡ false) b bs is f.lacks;
  front = ap (λ t. cond t (b ∷ []) (b ∷ take_through 10 bs)) is ∙ ap (λ xs. b ∷ xs) f.front;
  after = ap (λ t. cond t bs (drop_through 10 bs)) is ∙ f.after;
})

cut : (bs : List ℕ) → Cut bs
cut [] = inr (record { lacks = All-nil (λ x. is_feed x ≡ false); front = refl; after = refl })
cut (b ∷ bs) = cut_more b bs (is_feed b) refl (cut bs)

ends_is : (c : ℕ) (xs : List ℕ) → 0 < length xs → ends_with_byte c xs ≡ eqb (get_or xs (length xs - 1) 0) c
ends_is c xs some = ap (λ t. t && eqb (get_or xs (length xs - 1) 0) c) (lt-ltb 0 (length xs) some)

-- a carriage return at the end goes by either word
same_strip : (line : List ℕ) → strip_last 13 line ≡ strip_carriage_return line
same_strip [] = refl
same_strip (b ∷ bs) = ap (λ t. cond t (take (length (b ∷ bs) - 1) (b ∷ bs)) (b ∷ bs)) (ends_is 13 (b ∷ bs) (omega arith))

module _ (line : List ℕ) where
  abbrev with_feed : List ℕ
  with_feed = line ++ 10 ∷ []

  last_place : length with_feed - 1 ≡ length line
  last_place = omega (arith, length-append line (10 ∷ []))

  ends_fed : ends_with_byte 10 with_feed ≡ true
  ends_fed = ends_is 10 with_feed (omega (arith, length-append line (10 ∷ []))) ∙ ap (λ k. eqb (get_or with_feed k 0) 10) last_place ∙ ap (λ x. eqb x 10) (get_or-append_seam line 10 [] 0)

  feed_gone : strip_last 10 with_feed ≡ line
  feed_gone = ap (λ t. cond t (take (length with_feed - 1) with_feed) with_feed) ends_fed ∙ ap (λ k. take k with_feed) last_place ∙ take-append_seam line (10 ∷ [])

ends_unfed : (bs : List ℕ) → 0 < length bs → All (λ b. is_feed b ≡ false) bs → ends_with_byte 10 bs ≡ false
ends_unfed bs some lacks = ends_is 10 bs some ∙ lacks (length bs - 1) 0 (omega arith)

parts_more : (line : List ℕ) (parts : List (List ℕ)) → 0 < length parts → lines_of_parts (line ∷ parts) ≡ strip_carriage_return line ∷ lines_of_parts parts
parts_more line [] some = absurd (omega arith)
parts_more line (part ∷ parts) some = refl

-- what `first_line` makes of the bytes through the first line feed
abbrev line_of : List ℕ → List ℕ
line_of front = cond (ends_with_byte 10 front) (strip_last 13 (strip_last 10 front)) (strip_last 10 front)

line_fed : (line : List ℕ) → line_of (line ++ 10 ∷ []) ≡ strip_carriage_return line
line_fed line = ap (λ t. cond t (strip_last 13 (strip_last 10 (with_feed line))) (strip_last 10 (with_feed line))) (ends_fed line) ∙ ap (strip_last 13) (feed_gone line) ∙ same_strip line

line_unfed : (bs : List ℕ) → ends_with_byte 10 bs ≡ false → line_of bs ≡ bs
line_unfed bs not_fed = ap (λ t. cond t (strip_last 13 (strip_last 10 bs)) (strip_last 10 bs)) not_fed ∙ ap (λ t. cond t (take (length bs - 1) bs) bs) not_fed

cut_lines : (bs : List ℕ) → 0 < length bs → Cut bs → lines bs ≡ first_line bs ∷ lines (drop_through 10 bs)
cut_lines bs some (inl f) =
    let first : first_line bs ≡ strip_carriage_return f.line = ap line_of f.front ∙ line_fed f.line in
    ap lines f.whole
    ∙ ap lines_of_parts (slice_split_at is_feed f.line 10 f.rest f.lacks refl)
    ∙ parts_more f.line (slice_split is_feed f.rest) (omega (arith, length-slice_split is_feed f.rest))
    ∙ ap (λ x. x ∷ lines f.rest) (sym first)
    ∙ ap (λ r. first_line bs ∷ lines r) (sym f.after)
cut_lines bs some (inr f) =
    let first : first_line bs ≡ bs = ap line_of f.front ∙ line_unfed bs (ends_unfed bs some f.lacks) in
    ap lines_of_parts (slice_split_none is_feed bs f.lacks)
    ∙ ap (λ t. cond t [] (bs ∷ [])) (ne_eqb (length bs) 0 (λ z. omega arith))
    ∙ ap (λ x. x ∷ []) (sym first)
    ∙ ap (λ r. first_line bs ∷ lines r) (sym f.after)

-- the first line, and then those of what follows its line feed
pub lines_first : (bs : List ℕ) → 0 < length bs → lines bs ≡ first_line bs ∷ lines (drop_through 10 bs)
lines_first bs some = cut_lines bs some (cut bs)
