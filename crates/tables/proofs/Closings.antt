-- The lowest unknown wire, and cells that move one by one.
use Rattle.std.proofs.Common.{◌≡◌, ℕ, zero, suc, ◌+◌, ◌<◌, ◌≤◌, Bool, not, cond, eqb, ltb, List, [], ◌∷◌, length, get_or, take, set, Some, None, refl, ap, ◌∙◌, ⊎_elim, arith}
use Rattle.std.specs.List.{position, position_or_len}
use Rattle.std.proofs.lemmas.Bool.{cases_lt, lt-ltb, le-ltb, cond-true, cond-false, eq-eqb, ne_eqb}
use Rattle.std.proofs.lemmas.List.Recursion.{is_position_or_len}
use Rattle.kit.specs.declared.signal.Signal.{Signal}
use Rattle.kit.specs.declared.signal.Signal.TheVariants.{Unknown, Absent, Present}
use Rattle.kit.specs.Cells.{Cell}
use Rattle.kit.specs.Known.{is_known}
use Rattle.kit.specs.Meaning.{Meaning}
use Rattle.draft.specs.declared.block.Block.{Block}
use Rattle.draft.specs.Drawings.{Drawing, blank}
use Rattle.machine.specs.declared.answers.Closed.TheVariants.{Kept, Undetermined}
use Rattle.machine.specs.Machine.{lowest_unknown, next_cells}
use Rattle.machine.specs.Tables.{cell_at, next_cell}
use Rattle.tables.specs.Closings.{kept_answer, kept_cells}

lowest_within : {V : Type 0} (ws : List (Signal V)) → lowest_unknown ws ≤ length ws
lowest_within [] = omega arith
lowest_within (Unknown ∷ ws) = omega arith
lowest_within (Absent ∷ ws) = omega (arith, lowest_within ws)
lowest_within (Present v ∷ ws) = omega (arith, lowest_within ws)

-- what `position` seeks
abbrev pub unknown : {V : Type 0} → Signal V → Bool
unknown s = not (is_known s)

step : {V : Type 0} (s : Signal V) (ws : List (Signal V)) → lowest_unknown (s ∷ ws) ≡ cond (unknown s) 0 (1 + lowest_unknown ws)
step Unknown ws = refl
step Absent ws = omega arith
step (Present v) ws = omega arith

module _ {V : Type 0} (ws : List (Signal V)) where
  abbrev n : ℕ
  n = position_or_len (unknown {V = V}) ws

  is : lowest_unknown ws ≡ n
  is = is_position_or_len lowest_unknown unknown refl step ws

  found : n < length ws → position unknown ws ≡ Some n
  found l = cond-true (ltb n (length ws)) (Some n) None (lt-ltb n (length ws) l)

  found_none : length ws ≤ n → position unknown ws ≡ None
  found_none l = cond-false (ltb n (length ws)) (Some n) None (le-ltb n (length ws) l)

  -- no wire is unknown
  pub kept_none : position unknown ws ≡ None → (kept_answer ws ≡ Kept) × ((m : Meaning V) (d : Drawing) (cells : List (Cell V)) → kept_cells m d ws cells ≡ next_cells m ws d.blocks cells)
  kept_none h =
      ⊎_elim
      (λ l. let e = found l in absurd (cc))
      (λ g. let full = eq-eqb (lowest_unknown ws) (length ws) (omega (arith, is, lowest_within ws, g)) in (cond-true (eqb (lowest_unknown ws) (length ws)) Kept (Undetermined (lowest_unknown ws)) full, λ m d cells. cond-true (eqb (lowest_unknown ws) (length ws)) (next_cells m ws d.blocks cells) cells full))
      (cases_lt n (length ws))

  -- this one is the lowest
  pub kept_some : (w : ℕ) → position unknown ws ≡ Some w → (kept_answer ws ≡ Undetermined w) × ((m : Meaning V) (d : Drawing) (cells : List (Cell V)) → kept_cells m d ws cells ≡ cells)
  kept_some w h =
      ⊎_elim
      (λ l. let e = found l in let here : lowest_unknown ws ≡ w = is ∙ cc in let some = ne_eqb (lowest_unknown ws) (length ws) (λ f. absurd (omega (arith, is, f, l))) in (cond-false (eqb (lowest_unknown ws) (length ws)) Kept (Undetermined (lowest_unknown ws)) some ∙ ap Undetermined here, λ m d cells. cond-false (eqb (lowest_unknown ws) (length ws)) (next_cells m ws d.blocks cells) cells some))
      (λ g. let e = found_none g in absurd (cc))
      (cases_lt n (length ws))

module _ {V : Type 0} (m : Meaning V) (wires : List (Signal V)) where
  pub length_next : (bs : List Block) (cells : List (Cell V)) → length (next_cells m wires bs cells) ≡ length cells
  length_next [] cells = refl
  length_next (b ∷ bs) [] = refl
  length_next (b ∷ bs) (c ∷ cells) = ap suc (length_next bs cells)

  -- a cell that has not moved yet
  pub next_later : (bs : List Block) (k : ℕ) (cells : List (Cell V)) → k < length bs → cell_at (next_cells m wires (take k bs) cells) k ≡ cell_at cells k
  next_later [] k cells l = absurd (omega arith)
  next_later (b ∷ bs) zero cells l = refl
  next_later (b ∷ bs) (suc k) [] l = refl
  next_later (b ∷ bs) (suc k) (c ∷ cells) l = next_later bs k cells (omega arith)

  -- one cell more moves
  pub next_more : (bs : List Block) (k : ℕ) (cells : List (Cell V)) → k < length bs → k < length cells → next_cells m wires (take (suc k) bs) cells ≡ set (next_cells m wires (take k bs) cells) k (next_cell m wires (get_or bs k blank) (cell_at cells k))
  next_more [] k cells l h = absurd (omega arith)
  next_more (b ∷ bs) k [] l h = absurd (omega arith)
  next_more (b ∷ bs) zero (c ∷ cells) l h = refl
  next_more (b ∷ bs) (suc k) (c ∷ cells) l h = ap (λ cs. next_cell m wires b c ∷ cs) (next_more bs k cells (omega arith) (omega arith))
