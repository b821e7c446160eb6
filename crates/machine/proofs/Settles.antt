-- Settling comes to the least solution, in at most one round more than wires become known.
use Rattle.std.proofs.Common.{◌≡◌, ℕ, zero, suc, ◌+◌, ◌-◌, ◌<◌, ◌≤◌, eqb, List, length, sym, ◌∙◌, subst, ⊎_elim, zero-add, arith}
use Rattle.std.proofs.lemmas.Bool.{cases_eq, eq-eqb, ne_eqb, cond-true, cond-false}
use Rattle.kit.specs.declared.signal.Signal.{Signal}
use Rattle.kit.specs.Cells.{Cell}
use Rattle.kit.specs.Meaning.{Meaning, Lawful}
use Rattle.draft.specs.Drawings.{Drawing}
use Rattle.diagram.specs.Reading.{IsDiagram}
use Rattle.machine.specs.Firing.{round, fired}
use Rattle.machine.specs.Settling.{Rounds, rounds, settled}
use Rattle.machine.specs.Solutions.{Solution}
use Rattle.machine.specs.Tables.{known}
use Rattle.machine.proofs.Holding.{HoldsOn, fired_holds, fired_rises, still_solves}
use Rattle.machine.proofs.Rows.{◌≼◌, known_rises, same_known, known_within}

-- a round that makes no wire known is the last
pub last_round : {V : Type 0} (m : Meaning V) (d : Drawing) (cells : List (Cell V)) (bound : ℕ) (wires : List (Signal V)) → known (round m d cells wires) ≡ known wires → rounds m d cells (suc bound) wires ≡ record { count = 1; wires = round m d cells wires }
unfolding rounds
last_round m d cells bound wires e = cond-true (eqb (known (round m d cells wires)) (known wires)) _ _ (eq-eqb (known (round m d cells wires)) (known wires) e)

-- any other is followed by those from its wires on
pub next_round : {V : Type 0} (m : Meaning V) (d : Drawing) (cells : List (Cell V)) (bound : ℕ) (wires : List (Signal V)) → (known (round m d cells wires) ≡ known wires → ⊥) → rounds m d cells (suc bound) wires ≡ record { count = suc (rounds m d cells bound (round m d cells wires)).count; wires = (rounds m d cells bound (round m d cells wires)).wires }
unfolding rounds
next_round m d cells bound wires ne = cond-false (eqb (known (round m d cells wires)) (known wires)) _ _ (ne_eqb (known (round m d cells wires)) (known wires) ne)

pub record Settles {V : Type 0} (m : Meaning V) (d : Drawing) (cells : List (Cell V)) (inputs wires : List (Signal V)) (r : Rounds V) : Type 0 where
  pub holds : HoldsOn m d cells inputs r.wires
  pub solves : Solution m d cells inputs r.wires
  pub more : known wires ≤ known r.wires
  pub few : r.count ≤ (known r.wires - known wires) + 1

module _ {V : Type 0} (m : Meaning V) (law : Lawful m) (d : Drawing) (is : IsDiagram d) (cells : List (Cell V)) (inputs : List (Signal V)) where
  round_holds : (wires : List (Signal V)) → HoldsOn m d cells inputs wires → HoldsOn m d cells inputs (round m d cells wires)
  round_holds wires h = fired_holds m law d is cells inputs wires (length d.blocks) (omega arith) h

  round_rises : (wires : List (Signal V)) → wires ≼ round m d cells wires
  round_rises wires = subst (λ i. wires ≼ fired m d cells wires i) (zero-add (length d.blocks)) (fired_rises m law d is cells inputs wires 0 (length d.blocks))

  settles : (bound : ℕ) (wires : List (Signal V)) → HoldsOn m d cells inputs wires → length wires < bound + known wires → Settles m d cells inputs wires (rounds m d cells bound wires)
  settles zero wires h l = absurd (omega (arith, known_within wires))
  settles (suc bound) wires h l =
      let after = round m d cells wires in
      let held = round_holds wires h in
      let long : length wires ≡ length after = h.long ∙ sym held.long in
      let up = known_rises wires after long (round_rises wires) in
      ⊎_elim
      (λ e.
      let same : wires ≡ after = same_known wires after long (round_rises wires) (sym e) in
      subst (Settles m d cells inputs wires) (sym (last_round m d cells bound wires e))
      (record {
        holds = held;
        solves = subst (Solution m d cells inputs) same (still_solves m law d is cells inputs wires h (sym same));
        more = up;
        few = omega arith;
      }))
      (λ ne.
      let rest = settles bound after held (omega (arith, ne)) in
      subst (Settles m d cells inputs wires) (sym (next_round m d cells bound wires ne))
      (record {
        holds = rest.holds;
        solves = rest.solves;
        more = omega (arith, rest.more);
        few = omega (arith, rest.few, rest.more, ne);
      }))
      (cases_eq (known after) (known wires))

  pub settles_all : (wires : List (Signal V)) → HoldsOn m d cells inputs wires → Settles m d cells inputs wires (settled m d cells wires)
  settles_all wires h = settles (suc (length wires)) wires h (omega arith)
