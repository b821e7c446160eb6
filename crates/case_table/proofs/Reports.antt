-- What is told while a table is tried.
use Rattle.std.proofs.Common.{◌≡◌, ℕ, ◌+◌, ◌<◌, ◌≤◌, cond, List, [], ◌∷◌, ◌++◌, length, map, All, Option, Some, None, unwrap_or, IfSome, sym, refl, ap, subst, ◌∙◌, arith, append_assoc, append-nil}
use Rattle.std.specs.Prelude.{⊤}
use Rattle.std.specs.List.{flat_map, count_by}
use Rattle.std.specs.Option.{option_map}
use Rattle.std.specs.Io.KnownBytes.{Appends, IsAtEnd}
use Rattle.std.specs.Io.BufRead.{first_line, drop_through, DropsThrough}
use Rattle.std.specs.Str.Lines.{lines}
use Rattle.std.proofs.lemmas.List.{flat_map_more, map-append, length-map, length-append}
use Rattle.std.proofs.lemmas.List.Elements.{All-push, All-nil}
use Rattle.std.proofs.lemmas.List.Sums.{fold-append, count_by-le-length}
use Rattle.case_table.specs.Cases.{Tried, column, is_wrong, went_wrong, told_of, ends, Tells, TellsInto}
use Rattle.case_table.proofs.LinesRead.{lines_first}

-- what a column is, read through the reference to it
pub column_now : {A : Type 0} (o : Option A) (v : A → List ℕ) (d : A) → v d ≡ [] → v (unwrap_or o d) ≡ unwrap_or (option_map v o) []
column_now None v d h = h
column_now (Some x) v d h = refl

-- the cases of these lines were tried, and this is told and counted so far
pub record SoFar (finds : List ℕ → List ℕ → List ℕ → Type 0) (ls : List (List ℕ)) (told : List ℕ) (wrong : ℕ) : Type 0 where
  pub tries : List Tried
  pub in_order : map (λ t. t.0) tries ≡ ls
  pub found : All (λ t. finds (column 0 t.0) (column 3 t.0) t.1) tries
  pub tells : told ≡ flat_map (λ t. told_of t.0 (column 2 t.0) t.1) tries
  pub counts : wrong ≡ count_by went_wrong tries

module _ {finds : List ℕ → List ℕ → List ℕ → Type 0} {ls : List (List ℕ)} {told : List ℕ} {wrong : ℕ} (s : SoFar finds ls told wrong) where
  as_many : length s.tries ≡ length ls
  as_many = sym (length-map s.tries (λ t. t.0)) ∙ ap length s.in_order

  -- no more are wrong than were tried
  pub wrong_within : wrong ≤ length ls
  wrong_within = omega (arith, s.counts, as_many, count_by-le-length went_wrong s.tries)

  pub one_tried : (line found : List ℕ) → finds (column 0 line) (column 3 line) found → SoFar finds (ls ++ line ∷ []) (told ++ told_of line (column 2 line) found) (wrong + cond (is_wrong (column 2 line) found) 1 0)
  one_tried line found f = record {
    tries = s.tries ++ (line, found) ∷ [];
    in_order = map-append (λ t. t.0) s.tries ((line, found) ∷ []) ∙ ap (λ xs. xs ++ line ∷ []) s.in_order;
    found = All-push (λ t. finds (column 0 t.0) (column 3 t.0) t.1) s.tries (line, found) s.found f;
    tells = ap (λ bs. bs ++ told_of line (column 2 line) found) s.tells ∙ flat_map_more (λ t. told_of t.0 (column 2 t.0) t.1) [] s.tries (line, found);
    counts = ap (λ n. n + cond (is_wrong (column 2 line) found) 1 0) s.counts ∙ sym (fold-append (λ n t. n + cond (went_wrong t) 1 0) 0 s.tries ((line, found) ∷ []));
  }

  pub all_tried : (table : List ℕ) (cases : ℕ) → ls ≡ lines table → cases ≡ length (lines table) → Tells finds table (told ++ ends cases wrong)
  all_tried table cases all so_many = record {
    tries = s.tries;
    in_order = s.in_order ∙ all;
    found = s.found;
    reported = ap (λ bs. bs ++ ends cases wrong) s.tells ∙ ap (λ bs. flat_map (λ t. told_of t.0 (column 2 t.0) t.1) s.tries ++ bs) (ap (λ n. ends n wrong) (so_many ∙ sym (as_many ∙ ap length all)) ∙ ap (ends (length s.tries)) s.counts);
  }

appends_more : (a b c : Option (List ℕ)) (xs ys : List ℕ) → Appends a b xs → Appends b c ys → Appends a c (xs ++ ys)
appends_more None b c xs ys first second = tt
appends_more (Some old) None c xs ys first second = elim first [ ]
appends_more (Some old) (Some now) None xs ys first second = elim second [ ]
appends_more (Some old) (Some now) (Some new) xs ys first second = second ∙ ap (λ zs. zs ++ ys) first ∙ append_assoc old xs ys

appends_none : (a : Option (List ℕ)) → Appends a a []
appends_none None = tt
appends_none (Some xs) = sym (append-nil xs)

-- of the known table the reader has this left, and the writer was told of the lines before it
pub record Streamed (finds : List ℕ → List ℕ → List ℕ → Type 0) (table : List ℕ) (left old now : Option (List ℕ)) (cases wrong : ℕ) : Type 0 where
  pub before : List (List ℕ)
  pub rest : List ℕ
  pub told : List ℕ
  pub is_left : left ≡ Some rest
  pub parts : lines table ≡ before ++ lines rest
  pub counted : cases ≡ length before
  pub so_far : SoFar finds before told wrong
  pub appends : Appends old now told

-- the same where the table is known
abbrev pub Streams : (List ℕ → List ℕ → List ℕ → Type 0) → Option (List ℕ) → Option (List ℕ) → Option (List ℕ) → Option (List ℕ) → ℕ → ℕ → Type 0
Streams finds None left old now cases wrong = ⊤
Streams finds (Some table) left old now cases wrong = Streamed finds table left old now cases wrong

module _ (finds : List ℕ → List ℕ → List ℕ → Type 0) where
  -- at the start nothing was told
  pub streams_none : (all left old : Option (List ℕ)) (cases wrong : ℕ) → left ≡ all → cases ≡ 0 → wrong ≡ 0 → Streams finds all left old old cases wrong
  streams_none None left old cases wrong is no_case none_wrong = tt
  streams_none (Some table) left old cases wrong is no_case none_wrong = record {
    before = [];
    rest = table;
    told = [];
    is_left = is;
    parts = refl;
    counted = no_case;
    so_far = record { tries = []; in_order = refl; found = All-nil (λ t. finds (column 0 t.0) (column 3 t.0) t.1); tells = refl; counts = none_wrong };
    appends = appends_none old;
  }

  -- a line was read and tried
  pub streams_more : (all left left' old now now' : Option (List ℕ)) (cases cases' wrong wrong' : ℕ) (line found : List ℕ) → Streams finds all left old now cases wrong
      → IfSome left (λ xs. (0 < length xs) × (line ≡ first_line xs)) → DropsThrough left left' 10
      → finds (column 0 line) (column 3 line) found → Appends now now' (told_of line (column 2 line) found)
      → cases' ≡ cases + 1 → wrong' ≡ wrong + cond (is_wrong (column 2 line) found) 1 0 → Streams finds all left' old now' cases' wrong'
  streams_more None left left' old now now' cases cases' wrong wrong' line found s first drops f more one_more if_wrong = tt
  streams_more (Some table) left left' old now now' cases cases' wrong wrong' line found s first drops f more one_more if_wrong =
      let is_first = subst (λ o. IfSome o (λ xs. (0 < length xs) × (line ≡ first_line xs))) s.is_left first in
      let after : List ℕ = drop_through 10 s.rest in
      let so = one_tried s.so_far line found f in
      record {
        before = s.before ++ line ∷ [];
        rest = after;
        told = s.told ++ told_of line (column 2 line) found;
        is_left = subst (λ o. DropsThrough o left' 10) s.is_left drops;
        parts = s.parts ∙ ap (λ ls. s.before ++ ls) (lines_first s.rest is_first.0 ∙ ap (λ x. x ∷ lines after) (sym is_first.1)) ∙ sym (append_assoc s.before (line ∷ []) (lines after));
        counted = omega (arith, s.counted, one_more, length-append s.before (line ∷ []));
        so_far = subst (SoFar finds (s.before ++ line ∷ []) (s.told ++ told_of line (column 2 line) found)) (sym if_wrong) so;
        appends = appends_more old now now' s.told (told_of line (column 2 line) found) s.appends more;
      }

  -- the reader came to the end of the table
  pub streams_all : (all left old now now' : Option (List ℕ)) (cases wrong : ℕ) → Streams finds all left old now cases wrong → IsAtEnd left → Appends now now' (ends cases wrong) → TellsInto finds all old now'
  streams_all None left old now now' cases wrong s end more = tt
  streams_all (Some table) left old now now' cases wrong s end more =
      let nothing : s.rest ≡ [] = subst IsAtEnd s.is_left end in
      let all_read : lines table ≡ s.before = s.parts ∙ ap (λ bs. s.before ++ lines bs) nothing ∙ append-nil s.before in
      (s.told ++ ends cases wrong, all_tried s.so_far table cases (sym all_read) (s.counted ∙ ap length (sym all_read)), appends_more old now now' s.told (ends cases wrong) s.appends more)
