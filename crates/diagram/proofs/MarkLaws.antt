-- The marks in a table, as the set of the wires that are marked.
use Rattle.std.proofs.Common.{◌≡◌, ℕ, zero, suc, ◌+◌, ◌-◌, ◌<◌, Bool, true, false, cond, not, ◌||◌, eqb, nat_eq, List, [], ◌∷◌, length, get_or, Some, None, Option, Ok, Err, Result, refl, sym, ap, ◌∙◌, zero-add, arith}
use Rattle.std.specs.Cmp.{nat_cmp_total, unsigned_tied}
use Rattle.std.specs.FinSet as set
use Rattle.std.specs.List.{list_any, find, range_with_len}
use Rattle.std.specs.Ordering.{nat_cmp}
use Rattle.std.proofs.Math.ListN.{set as put}
use Rattle.std.proofs.lemmas.Bool.{eq-eqb, ne_eqb}
use Rattle.std.proofs.lemmas.Grind.{common_steps}
use Rattle.text.specs.declared.fault.Cause.TheVariants.{DrivenTwice, NotDriven}
use Rattle.text.specs.declared.fault.Fault.{Fault}
use Rattle.text.specs.Results.{then, mapped, fault}
use Rattle.draft.specs.declared.block.Block.{Block}
use Rattle.draft.specs.Drawings.{Drawing}
use Rattle.diagram.specs.Marks.{marked}
use Rattle.diagram.specs.Wiring.{times, driven_by, driven_in, ports_within, all_driven, wiring_of}

other : (w q : ℕ) (ws : List ℕ) → (w ≡ q → ⊥) → list_any (λ y. nat_eq y q) (w ∷ ws) ≡ list_any (λ y. nat_eq y q) ws
other w q ws h = ap (λ t. t || list_any (λ y. nat_eq y q) ws) (ne_eqb w q h)

none_below : (ms : List Bool) (w q : ℕ) → q < w → list_any (λ y. nat_eq y q) (marked w ms) ≡ false
none_below [] w q h = refl
none_below (true ∷ ms) w q h = other w q (marked (w + 1) ms) (λ e. absurd (omega arith)) ∙ none_below ms (w + 1) q (omega arith)
none_below (false ∷ ms) w q h = none_below ms (w + 1) q (omega arith)

in_marked : (ms : List Bool) (w i q : ℕ) → q ≡ w + i → list_any (λ y. nat_eq y q) (marked w ms) ≡ get_or ms i false
in_marked [] w i q h = refl
in_marked (true ∷ ms) w zero q h = ap (λ t. t || list_any (λ y. nat_eq y q) (marked (w + 1) ms)) (eq-eqb w q (omega arith))
in_marked (false ∷ ms) w zero q h = none_below ms (w + 1) q (omega arith)
in_marked (true ∷ ms) w (suc i) q h = other w q (marked (w + 1) ms) (λ e. absurd (omega arith)) ∙ in_marked ms (w + 1) i q (omega arith)
in_marked (false ∷ ms) w (suc i) q h = in_marked ms (w + 1) i q (omega arith)

pub contains_marked : (ms : List Bool) (q : ℕ) → set.contains (set.from_list {R = nat_cmp} (marked 0 ms)) q ≡ get_or ms q false
contains_marked ms q = set.contains-from_list_nat (marked 0 ms) q ∙ in_marked ms 0 q q (omega arith)

put_one : (ms : List Bool) (w q : ℕ) → w < length ms → get_or (put ms w true) q false ≡ (nat_eq q w || get_or ms q false)
put_one ms w q h = grind (arith, common_steps)

pub marked_one : (ms : List Bool) (w : ℕ) → w < length ms → set.from_list {R = nat_cmp} (marked 0 (put ms w true)) ≡ set.insert (set.from_list (marked 0 ms)) w
marked_one ms w h =
    set.same_set nat_cmp_total set.nat_cmp-IsAntisymmetric _ _
    (λ q. contains_marked (put ms w true) q ∙ put_one ms w q h ∙ sym (set.contains-insert nat_cmp_total (set.from_list (marked 0 ms)) w q ∙ (λ i. unsigned_tied q w i || contains_marked ms q i)))

-- a set of wires tells as much as the list that it is made of
pub contains_times : (ws : List ℕ) (w : ℕ) → set.contains (set.from_list {R = nat_cmp} ws) w ≡ not (eqb (times w ws) 0)
contains_times ws w = set.contains-from_list_nat ws w ∙ any_times ws w
  where
    any_times : (ws : List ℕ) (w : ℕ) → list_any (λ y. nat_eq y w) ws ≡ not (eqb (times w ws) 0)
    any_times [] w = refl
    any_times (x ∷ ws) w =
        elim (eqb x w) as (λ t. (t || list_any (λ y. nat_eq y w) ws) ≡ not (eqb (cond t 1 0 + times w ws) 0)) [
          | true ↦ sym (ap not (ne_eqb (1 + times w ws) 0 (λ e. absurd (omega arith))))
          | false ↦ any_times ws w ∙ ap (λ n. not (eqb n 0)) (sym (zero-add (times w ws)))
        ]

-- one output after the other
pub one_driven : (k w : ℕ) (wires ws : List ℕ) (s : set.FinSet nat_cmp) (r : Result (Unit {0}) Fault) → s ≡ set.from_list wires → r ≡ cond (set.contains s w) (Err (fault DrivenTwice k w)) (Ok tt) → driven_by k wires (w ∷ ws) ≡ then r (λ _. driven_by k (w ∷ wires) ws)
one_driven k w wires ws s r is told =
    let rest = driven_by k (w ∷ wires) ws in
    let test : set.contains s w ≡ not (eqb (times w wires) 0) = ap (λ t. set.contains t w) is ∙ contains_times wires w in
    let told' : r ≡ cond (not (eqb (times w wires) 0)) (Err (fault DrivenTwice k w)) (Ok tt) = told ∙ ap (λ t. cond t (Err (fault DrivenTwice k w)) (Ok tt)) test in
    elim (eqb (times w wires) 0) as (λ t. r ≡ cond (not t) (Err (fault DrivenTwice k w)) (Ok tt) → cond t rest (Err (fault DrivenTwice k w)) ≡ then r (λ _. rest)) [
      | true ↦ λ h. ap (λ x. then x (λ _. rest)) (sym h)
      | false ↦ λ h. ap (λ x. then x (λ _. rest)) (sym h)
    ] told'

-- what is said of the first wire that is not driven, if there is one
abbrev pub missing : ℕ → Option ℕ → Result (Unit {0}) Fault
missing n None = Ok tt
missing n (Some w) = Err (fault NotDriven n w)

all_found : (n : ℕ) (ws : List ℕ) (w count : ℕ) → all_driven n ws w count ≡ missing n (find (λ v. not (set.contains (set.from_list {R = nat_cmp} ws) v)) (range_with_len w count))
all_found n ws w zero = refl
all_found n ws w (suc count) =
    let rest = range_with_len (w + 1) count in
    let test = λ (v : ℕ). not (set.contains (set.from_list {R = nat_cmp} ws) v) in
    let there : test w ≡ eqb (times w ws) 0 = ap not (contains_times ws w) ∙ not_not (eqb (times w ws) 0) in
    elim (eqb (times w ws) 0) as (λ t. test w ≡ t → cond t (Err (fault NotDriven n w)) (all_driven n ws (w + 1) count) ≡ missing n (cond (test w) (Some w) (find test rest))) [
      | true ↦ λ h. ap (λ t. missing n (cond t (Some w) (find test rest))) (sym h)
      | false ↦ λ h. all_found n ws (w + 1) count ∙ ap (λ t. missing n (cond t (Some w) (find test rest))) (sym h)
    ] there
  where
    not_not : (t : Bool) → not (not t) ≡ t
    not_not true = refl
    not_not false = refl

-- the checks, by the set of the wires that are driven
abbrev pub by_set : ℕ → ℕ → List Block → Result (Unit {0}) Fault → Result (set.FinSet nat_cmp) Fault → Result (Unit {0}) Fault
by_set e n bs ports driven =
    then ports (λ _. then driven (λ s. missing (length bs) (find (λ v. not (set.contains s v)) (range_with_len e (n - e)))))

pub wiring_by_set : (d : Drawing) → wiring_of d ≡ by_set d.inputs d.wires d.blocks (ports_within d.inputs d.wires 0 d.blocks) (mapped set.from_list (driven_in 0 [] d.blocks))
unfolding wiring_of
wiring_by_set d = ap (λ m. then (ports_within d.inputs d.wires 0 d.blocks) (λ _. m)) (driven_then (driven_in 0 [] d.blocks))
  where
    driven_then : (r : Result (List ℕ) Fault) → then r (λ ws. all_driven (length d.blocks) ws d.inputs (d.wires - d.inputs)) ≡ then (mapped (set.from_list {R = nat_cmp}) r) (λ s. missing (length d.blocks) (find (λ v. not (set.contains s v)) (range_with_len d.inputs (d.wires - d.inputs))))
    driven_then (Ok ws) = all_found (length d.blocks) ws d.inputs (d.wires - d.inputs)
    driven_then (Err f) = refl
