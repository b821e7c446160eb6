-- The rounds of a settle so far, and those to come.
use Rattle.std.proofs.Common.{◌≡◌, ℕ, suc, ◌+◌, ◌-◌, ◌≤◌, List, length, sym, ap, ◌∙◌, subst, arith}
use Rattle.kit.specs.declared.signal.Signal.{Signal}
use Rattle.kit.specs.Cells.{Cell}
use Rattle.kit.specs.Meaning.{Meaning}
use Rattle.draft.specs.Drawings.{Drawing}
use Rattle.diagram.specs.Diagrams.{drawing}
use Rattle.machine.specs.Firing.{round}
use Rattle.machine.specs.Settling.{Rounds, rounds, settled}
use Rattle.machine.specs.Tables.{known}
use Rattle.machine.proofs.Rows.{known_within}
use Rattle.machine.proofs.Settles.{last_round, next_round}
use Rattle.tables.specs.declared.lent.Tables.{Tables}
use Rattle.tables.specs.Lent.{drawing_of_tables, SameLoans}

module _ {V : Type 0} (m : Meaning V) (d : Drawing) (cells : List (Cell V)) where
  abbrev after : ℕ → Rounds V → Rounds V
  after i rest = record { count = i + rest.count; wires = rest.wires }

  -- i rounds have come to these wires
  abbrev pub SoFar : List (Signal V) → ℕ → List (Signal V) → Type 0
  SoFar from i wires = settled m d cells from ≡ after i (rounds m d cells (suc (length from) - i) wires)

  pub so_far_more : (from : List (Signal V)) (i : ℕ) (wires : List (Signal V)) → i ≤ length from → (known (round m d cells wires) ≡ known wires → ⊥) → SoFar from i wires → SoFar from (i + 1) (round m d cells wires)
  so_far_more from i wires l ne h =
      let left = length from - i in
      let to_come = λ (n : ℕ). rounds m d cells n (round m d cells wires) in
      let now_left : suc (length from) - i ≡ suc left = omega arith in
      let then_left : left ≡ suc (length from) - (i + 1) = omega arith in
      let one_more : i + suc (to_come left).count ≡ (i + 1) + (to_come left).count = omega arith in
      h
      ∙ ap (λ n. after i (rounds m d cells n wires)) now_left
      ∙ ap (after i) (next_round m d cells left wires ne)
      ∙ ap (λ n. record { count = n; wires = (to_come left).wires }) one_more
      ∙ ap (λ n. after (i + 1) (to_come n)) then_left

  pub so_far_last : (from : List (Signal V)) (i : ℕ) (wires : List (Signal V)) → i ≤ length from → known (round m d cells wires) ≡ known wires → SoFar from i wires → settled m d cells from ≡ record { count = i + 1; wires = round m d cells wires }
  so_far_last from i wires l e h =
      let left = length from - i in
      let now_left : suc (length from) - i ≡ suc left = omega arith in
      h
      ∙ ap (λ n. after i (rounds m d cells n wires)) now_left
      ∙ ap (after i) (last_round m d cells left wires e)

module _ {V : Type 0} where
  pub loans_on : (s t u : Tables V) → SameLoans s t → SameLoans t u → SameLoans s u
  loans_on s t u h k = record { diagram = k.diagram ∙ h.diagram; cells = k.cells ∙ h.cells; wires = k.wires ∙ h.wires }

  pub as_many : (s t : Tables V) → SameLoans s t → length t.wires.now ≡ length s.wires.now
  as_many s t h = t.fit.wires_fit ∙ ap (λ d. (drawing d.now).wires) h.diagram ∙ sym s.fit.wires_fit

module _ {V : Type 0} (m : Meaning V) (from : Tables V) where
  -- a settle from these tables, so many rounds on, which made so many wires known
  pub record Settling (at : Tables V) (rounds learned : ℕ) : Type 0 where
    pub loans : SameLoans from at
    pub so_far : SoFar m (drawing_of_tables from) from.cells.now from.wires.now rounds at.wires.now
    pub learns : learned + known from.wires.now ≡ known at.wires.now
    pub few : rounds ≤ learned

  -- one round more, which leaves other tables
  module _ (at next : Tables V) (i n more : ℕ) (h : Settling at i n) (after : next.wires.now ≡ round m (drawing_of_tables at) at.cells.now at.wires.now) (count : more + known at.wires.now ≡ known next.wires.now) where
    few_rounds : i ≤ length from.wires.now
    few_rounds = omega (arith, h.few, h.learns, known_within at.wires.now, as_many from at h.loans)

    round_on : next.wires.now ≡ round m (drawing_of_tables from) from.cells.now at.wires.now
    round_on = after ∙ (λ k. round m (drawing (h.loans.diagram k).now) (h.loans.cells k).now at.wires.now)

    pub settles_on : SameLoans at next → (more ≡ 0 → ⊥) → Settling next (i + 1) (n + more)
    settles_on loans some =
        let d = drawing_of_tables from in
        let ws = at.wires.now in
        let rose : known (round m d from.cells.now ws) ≡ known ws → ⊥ = λ e. some (omega (arith, count, ap known round_on, e)) in
        record {
          loans = loans_on from at next h.loans loans;
          so_far = subst (λ w. SoFar m d from.cells.now from.wires.now (i + 1) w) (sym round_on) (so_far_more m d from.cells.now from.wires.now i ws few_rounds rose h.so_far);
          learns = omega (arith, h.learns, count);
          few = omega (arith, h.few, some);
        }

    pub settles_last : more ≡ 0 → settled m (drawing_of_tables from) from.cells.now from.wires.now ≡ record { count = i + 1; wires = next.wires.now }
    settles_last none =
        let d = drawing_of_tables from in
        let ws = at.wires.now in
        let same : known (round m d from.cells.now ws) ≡ known ws = omega (arith, none, count, ap known round_on) in
        so_far_last m d from.cells.now from.wires.now i ws few_rounds same h.so_far ∙ ap (λ w. record { count = i + 1; wires = w }) (sym round_on)
