-- A drawing passes the checks of its wiring exactly when it is wired.
use Rattle.std.proofs.Common.{◌≡◌, ℕ, zero, suc, ◌+◌, ◌-◌, ◌<◌, ◌≤◌, true, false, cond, ◌&&◌, eqb, ltb, leb, List, [], ◌∷◌, ◌++◌, length, get_or, Ok, Err, sym, refl, ap, ◌∙◌, ⊎_elim, arith}
use Rattle.std.specs.List.{flat_map}
use Rattle.std.proofs.lemmas.Bool.{and_parts, and_from, leb-true, ltb-true, le-leb, lt-ltb, eqb-true, eqb-false, eq-eqb, ne_eqb, cond-true, cond-false, cases_eq, cases_lt}
use Rattle.text.specs.declared.fault.Cause.TheVariants.{PortOutside, DrivenTwice, NotDriven}
use Rattle.text.specs.Results.{then, fault}
use Rattle.text.proofs.ResultLaws.{same_ok, then_ok, passed, missed}
use Rattle.draft.specs.declared.block.Block.{Block}
use Rattle.draft.specs.Drawings.{Drawing, blank}
use Rattle.diagram.specs.Marks.{Below}
use Rattle.diagram.specs.Wiring.{ins, outs, times, readers, drivers, Wired, each_within, block_within, ports_within, driven_by, driven_in, all_driven, wiring_of}

pub times_append : (w : ℕ) (xs ys : List ℕ) → times w (xs ++ ys) ≡ times w xs + times w ys
times_append w [] ys = omega arith
times_append w (x ∷ xs) ys = omega (arith, times_append w xs ys)

-- a wire that stands first stands there
pub first_counts : (w : ℕ) (xs : List ℕ) → 0 < times w (w ∷ xs)
first_counts w xs = omega (arith, ap {B = ℕ} (λ t. cond t 1 0) (eq-eqb w w refl))

other_counts : (w x : ℕ) (xs : List ℕ) → (x ≡ w → ⊥) → times w (x ∷ xs) ≡ times w xs
other_counts w x xs h = omega (arith, ap {B = ℕ} (λ t. cond t 1 0) (ne_eqb x w h))

-- ports within low to high - 1
pub within_only : (low high k : ℕ) (ws : List ℕ) (u : Unit {0}) → each_within low high k ws ≡ Ok u → Below high ws × ((w : ℕ) → w < low → times w ws ≡ 0) × ((w : ℕ) → high ≤ w → times w ws ≡ 0)
within_only low high k [] u h = (tt, λ w l. refl, λ w l. refl)
within_only low high k (x ∷ ws) u h =
    let t = passed (leb low x && ltb x high) (each_within low high k ws) (fault PortOutside k x) u h in
    let parts = and_parts (leb low x) (ltb x high) t.0 in
    let from = leb-true low x parts.0 in
    let to = ltb-true x high parts.1 in
    let rest = within_only low high k ws u t.1 in (
      (to, rest.0),
      λ w l. other_counts w x ws (λ e. absurd (omega arith)) ∙ rest.1 w l,
      λ w l. other_counts w x ws (λ e. absurd (omega arith)) ∙ rest.2 w l,
    )

within_all : (low high k : ℕ) (ws : List ℕ) → ((w : ℕ) → w < low → times w ws ≡ 0) → ((w : ℕ) → high ≤ w → times w ws ≡ 0) → each_within low high k ws ≡ Ok tt
within_all low high k [] from to = refl
within_all low high k (x ∷ ws) from to =
    let low_fits : low ≤ x = ⊎_elim (λ l. absurd (omega (arith, first_counts x ws, from x l))) (λ g. g) (cases_lt x low) in
    let high_fits : x < high = ⊎_elim (λ l. l) (λ g. absurd (omega (arith, first_counts x ws, to x g))) (cases_lt x high) in
    cond-true (leb low x && ltb x high) _ (Err (fault PortOutside k x)) (and_from _ _ (le-leb low x low_fits) (lt-ltb x high high_fits))
    ∙ within_all low high k ws (λ w l. omega (arith, from w l)) (λ w l. omega (arith, to w l))

-- every block's ports
record Within (e n : ℕ) (bs : List Block) : Type 0 where
  reads : (w : ℕ) → n ≤ w → readers w bs ≡ 0
  from : (w : ℕ) → w < e → drivers w bs ≡ 0
  to : (w : ℕ) → n ≤ w → drivers w bs ≡ 0

ports_only : (e n k : ℕ) (bs : List Block) (u : Unit {0}) → ports_within e n k bs ≡ Ok u → Within e n bs
ports_only e n k [] u h = record { reads = λ w l. refl; from = λ w l. refl; to = λ w l. refl }
ports_only e n k (b ∷ bs) u h =
    let here = then_ok (block_within e n k b) _ u h in
    let i = then_ok (each_within 0 n k (ins b.inputs)) _ here.0 here.1 in
    let read = within_only 0 n k (ins b.inputs) i.0 i.1 in
    let driven = within_only e n k (outs b.outputs) here.0 i.2 in
    let rest = ports_only e n (k + 1) bs u here.2 in
    record {
      reads = λ w l. times_append w (ins b.inputs) _ ∙ omega (arith, read.2 w l, rest.reads w l);
      from = λ w l. times_append w (outs b.outputs) _ ∙ omega (arith, driven.1 w l, rest.from w l);
      to = λ w l. times_append w (outs b.outputs) _ ∙ omega (arith, driven.2 w l, rest.to w l);
    }

ports_all : (e n k : ℕ) (bs : List Block) → Within e n bs → ports_within e n k bs ≡ Ok tt
ports_all e n k [] h = refl
ports_all e n k (b ∷ bs) h =
    let read = within_all 0 n k (ins b.inputs) (λ w l. absurd (omega arith)) (λ w l. omega (arith, h.reads w l, times_append w (ins b.inputs) (flat_map (λ c. ins c.inputs) bs))) in
    let driven = within_all e n k (outs b.outputs) (λ w l. omega (arith, h.from w l, times_append w (outs b.outputs) (flat_map (λ c. outs c.outputs) bs))) (λ w l. omega (arith, h.to w l, times_append w (outs b.outputs) (flat_map (λ c. outs c.outputs) bs))) in
    ap (λ r. then (then r (λ _. each_within e n k (outs b.outputs))) (λ _. ports_within e n (k + 1) bs)) read
    ∙ ap (λ r. then r (λ _. ports_within e n (k + 1) bs)) driven
    ∙ ports_all e n (k + 1) bs
    (record {
      reads = λ w l. omega (arith, h.reads w l, times_append w (ins b.inputs) (flat_map (λ c. ins c.inputs) bs));
      from = λ w l. omega (arith, h.from w l, times_append w (outs b.outputs) (flat_map (λ c. outs c.outputs) bs));
      to = λ w l. omega (arith, h.to w l, times_append w (outs b.outputs) (flat_map (λ c. outs c.outputs) bs));
    })

below_more : (m n : ℕ) (ws : List ℕ) → m ≤ n → Below m ws → Below n ws
below_more m n [] le h = tt
below_more m n (w ∷ ws) le h = (omega (arith, h.0), below_more m n ws le h.1)

-- so that the wires of every output have a place in the table of marks
pub outs_below : (e n k most : ℕ) (bs : List Block) (u : Unit {0}) → n ≤ most → ports_within e n k bs ≡ Ok u → (i : ℕ) → i < length bs → Below most (outs (get_or bs i blank).outputs)
outs_below e n k most [] u le h i l = absurd (omega arith)
outs_below e n k most (b ∷ bs) u le h zero l =
    let here = then_ok (block_within e n k b) _ u h in
    let read = then_ok (each_within 0 n k (ins b.inputs)) _ here.0 here.1 in
    below_more n most (outs b.outputs) le (within_only e n k (outs b.outputs) here.0 read.2).0
outs_below e n k most (b ∷ bs) u le h (suc i) l = outs_below e n (k + 1) most bs u le (then_ok (block_within e n k b) _ u h).2 i (omega arith)

-- wires driven, none of them twice
record Driven (before after ws : List ℕ) : Type 0 where
  counts : (w : ℕ) → times w after ≡ times w before + times w ws
  once : ((w : ℕ) → times w before ≤ 1) → (w : ℕ) → times w after ≤ 1

by_only : (k : ℕ) (driven ws after : List ℕ) → driven_by k driven ws ≡ Ok after → Driven driven after ws
by_only k driven [] after h = let e = same_ok h in record { counts = λ w. omega (arith, ap (times w) e); once = λ o w. omega (arith, ap (times w) e, o w) }
by_only k driven (x ∷ ws) after h =
    let t = passed (eqb (times x driven) 0) (driven_by k (x ∷ driven) ws) (fault DrivenTwice k x) after h in
    let rest = by_only k (x ∷ driven) ws after t.1 in
    let new = eqb-true (times x driven) 0 t.0 in
    record {
      counts = λ w. omega (arith, rest.counts w);
      once = λ o. rest.once (λ w. ⊎_elim (λ e. one_more w x driven (ap (λ y. times y driven) (sym e) ∙ new)) (λ ne. omega (arith, other_counts w x driven ne, o w)) (cases_eq x w));
    }
  where
    one_more : (w y : ℕ) (ys : List ℕ) → times w ys ≡ 0 → times w (y ∷ ys) ≤ 1
    one_more w y ys z = elim (eqb y w) as (λ t. cond t 1 0 + times w ys ≤ 1) [ true ↦ omega arith | false ↦ omega arith ]

in_only : (k : ℕ) (driven : List ℕ) (bs : List Block) (after : List ℕ) → driven_in k driven bs ≡ Ok after → Driven driven after (flat_map (λ b. outs b.outputs) bs)
in_only k driven [] after h = let e = same_ok h in record { counts = λ w. omega (arith, ap (times w) e); once = λ o w. omega (arith, ap (times w) e, o w) }
in_only k driven (b ∷ bs) after h =
    let t = then_ok (driven_by k driven (outs b.outputs)) _ after h in
    let here = by_only k driven (outs b.outputs) t.0 t.1 in
    let rest = in_only (k + 1) t.0 bs after t.2 in
    record {
      counts = λ w. omega (arith, here.counts w, rest.counts w, times_append w (outs b.outputs) (flat_map (λ c. outs c.outputs) bs));
      once = λ o. rest.once (here.once o);
    }

by_all : (k : ℕ) (driven ws : List ℕ) → ((w : ℕ) → times w driven + times w ws ≤ 1) → (after : List ℕ) × (driven_by k driven ws ≡ Ok after)
by_all k driven [] h = (driven, refl)
by_all k driven (x ∷ ws) h =
    let new : times x driven ≡ 0 = omega (arith, h x, first_counts x ws) in
    let rest = by_all k (x ∷ driven) ws (λ w. omega (arith, h w)) in
    (rest.0, cond-true (eqb (times x driven) 0) (driven_by k (x ∷ driven) ws) (Err (fault DrivenTwice k x)) (eq-eqb _ 0 new) ∙ rest.1)

in_all : (k : ℕ) (driven : List ℕ) (bs : List Block) → ((w : ℕ) → times w driven + drivers w bs ≤ 1) → (after : List ℕ) × (driven_in k driven bs ≡ Ok after)
in_all k driven [] h = (driven, refl)
in_all k driven (b ∷ bs) h =
    let here = by_all k driven (outs b.outputs) (λ w. omega (arith, h w, times_append w (outs b.outputs) (flat_map (λ c. outs c.outputs) bs))) in
    let after = by_only k driven (outs b.outputs) here.0 here.1 in
    let rest = in_all (k + 1) here.0 bs (λ w. omega (arith, after.counts w, h w, times_append w (outs b.outputs) (flat_map (λ c. outs c.outputs) bs))) in
    (rest.0, ap (λ r. then r (λ more. driven_in (k + 1) more bs)) here.1 ∙ rest.1)

all_only : (n : ℕ) (driven : List ℕ) (w count : ℕ) (u : Unit {0}) → all_driven n driven w count ≡ Ok u → (v : ℕ) → w ≤ v → v < w + count → times v driven ≡ 0 → ⊥
all_only n driven w zero u h v low high z = absurd (omega arith)
all_only n driven w (suc count) u h v low high z =
    let t = missed (eqb (times w driven) 0) (all_driven n driven (w + 1) count) (fault NotDriven n w) u h in
    ⊎_elim (λ e. eqb-false (times w driven) 0 t.0 (ap (λ x. times x driven) (sym e) ∙ z)) (λ ne. all_only n driven (w + 1) count u t.1 v (omega (arith, ne)) (omega arith) z) (cases_eq v w)

all_all : (n : ℕ) (driven : List ℕ) (w count : ℕ) → ((v : ℕ) → w ≤ v → v < w + count → times v driven ≡ 0 → ⊥) → all_driven n driven w count ≡ Ok tt
all_all n driven w zero h = refl
all_all n driven w (suc count) h =
    cond-false (eqb (times w driven) 0) (Err (fault NotDriven n w)) (all_driven n driven (w + 1) count) (ne_eqb _ 0 (h w (omega arith) (omega arith)))
    ∙ all_all n driven (w + 1) count (λ v low high. h v (omega arith) (omega arith))

-- the checks tell wired drawings from others
pub wired_only : (d : Drawing) (u : Unit {0}) → wiring_of d ≡ Ok u → Wired d
unfolding wiring_of
wired_only d u h =
    let p = then_ok (ports_within d.inputs d.wires 0 d.blocks) _ u h in
    let m = then_ok (driven_in 0 [] d.blocks) _ u p.2 in
    let ports = ports_only d.inputs d.wires 0 d.blocks p.0 p.1 in
    let driven = in_only 0 [] d.blocks m.0 m.1 in
    record {
      reads_below = ports.reads;
      drives_within = (ports.from, ports.to);
      driven_once = λ w low high.
          let some = all_only (length d.blocks) m.0 d.inputs (d.wires - d.inputs) u m.2 w low (omega arith) in
          let not_none : times w m.0 ≡ 0 → ⊥ = some in
          let same : times w m.0 ≡ drivers w d.blocks = omega (arith, driven.counts w) in
          let one = driven.once (λ v. omega arith) w in
          omega (arith, same, one, not_none);
    }

pub wired_all : (d : Drawing) → d.inputs ≤ d.wires → Wired d → wiring_of d ≡ Ok tt
unfolding wiring_of
wired_all d among h =
    let at_most_once : (w : ℕ) → times w [] + drivers w d.blocks ≤ 1 = λ w.
    ⊎_elim (λ low. omega (arith, h.drives_within.0 w low))
    (λ from. ⊎_elim (λ to. omega (arith, h.driven_once w from to)) (λ high. omega (arith, h.drives_within.1 w high)) (cases_lt w d.wires))
    (cases_lt w d.inputs)
    in
    let m = in_all 0 [] d.blocks at_most_once in
    let driven = in_only 0 [] d.blocks m.0 m.1 in
    ap (λ r. then r (λ _. then (driven_in 0 [] d.blocks) (λ all. all_driven (length d.blocks) all d.inputs (d.wires - d.inputs))))
    (ports_all d.inputs d.wires 0 d.blocks (record { reads = h.reads_below; from = h.drives_within.0; to = h.drives_within.1 }))
    ∙ ap (λ r. then r (λ all. all_driven (length d.blocks) all d.inputs (d.wires - d.inputs))) m.1
    ∙ all_all (length d.blocks) m.0 d.inputs (d.wires - d.inputs) (λ v low high z. absurd (omega (arith, driven.counts v, h.driven_once v low (omega arith))))
