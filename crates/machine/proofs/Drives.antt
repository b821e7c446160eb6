-- The outputs of a diagram's blocks: within the wires, and each wire driven by one port.
use Rattle.std.proofs.Common.{◌≡◌, ℕ, zero, suc, ◌+◌, ◌<◌, ◌≤◌, cond, ◌≢◌, List, [], ◌∷◌, length, get_or, sym, refl, ap, ◌∙◌, ⊎_elim, arith}
use Rattle.std.specs.List.{flat_map}
use Rattle.std.proofs.lemmas.Bool.{cases_lt, eq-eqb}
use Rattle.kit.specs.declared.signal.Signal.{Signal}
use Rattle.draft.specs.declared.block.Block.{Block}
use Rattle.draft.specs.declared.block.OutPorts.{OutPorts}
use Rattle.draft.specs.declared.block.OutPorts.TheVariants.{One as OneOut, Two as TwoOut}
use Rattle.draft.specs.Drawings.{Drawing, blank}
use Rattle.diagram.specs.Reading.{IsDiagram}
use Rattle.diagram.specs.Wiring.{outs, times, drivers}
use Rattle.diagram.proofs.WiringLaws.{times_append, first_counts}
use Rattle.machine.specs.Firing.{takes, put, put_outs}
use Rattle.machine.specs.Solutions.{EachOutput}
use Rattle.machine.specs.Tables.{at, block_at}
use Rattle.machine.proofs.Rows.{length_put, at_put_same, at_put_other}

-- a block's ports are among all ports
pub one_among : (f : Block → List ℕ) (w k : ℕ) (bs : List Block) → k < length bs → times w (f (get_or bs k blank)) ≤ times w (flat_map f bs)
one_among f w k [] l = absurd (omega arith)
one_among f w zero (b ∷ bs) l = omega (arith, times_append w (f b) (flat_map f bs))
one_among f w (suc k) (b ∷ bs) l = omega (arith, one_among f w k bs (omega arith), times_append w (f b) (flat_map f bs))

times_one : (w k : ℕ) (bs : List Block) → k < length bs → times w (outs (get_or bs k blank).outputs) ≤ drivers w bs
times_one = one_among (λ b. outs b.outputs)

-- and two blocks' outputs together
times_two : (w j k : ℕ) (bs : List Block) → j < k → k < length bs → times w (outs (get_or bs j blank).outputs) + times w (outs (get_or bs k blank).outputs) ≤ drivers w bs
times_two w j k [] l h = absurd (omega arith)
times_two w zero zero (b ∷ bs) l h = absurd (omega arith)
times_two w zero (suc k) (b ∷ bs) l h = omega (arith, times_one w k bs (omega arith), times_append w (outs b.outputs) (flat_map (λ c. outs c.outputs) bs))
times_two w (suc j) zero (b ∷ bs) l h = absurd (omega arith)
times_two w (suc j) (suc k) (b ∷ bs) l h = omega (arith, times_two w j k bs (omega arith) (omega arith), times_append w (outs b.outputs) (flat_map (λ c. outs c.outputs) bs))

abbrev pub Drives : Drawing → ℕ → ℕ → Type 0
Drives d k w = 0 < times w (outs (block_at d k).outputs)

pub record Within (d : Drawing) (w : ℕ) : Type 0 where
  pub from : d.inputs ≤ w
  pub to : w < d.wires

module _ (d : Drawing) (is : IsDiagram d) where
  pub drives_within : (k w : ℕ) → k < length d.blocks → Drives d k w → Within d w
  drives_within k w l h =
      let some = times_one w k d.blocks l in
      record {
        from = ⊎_elim (λ low. absurd (omega (arith, is.wired.drives_within.0 w low))) (λ g. g) (cases_lt w d.inputs);
        to = ⊎_elim (λ g. g) (λ high. absurd (omega (arith, is.wired.drives_within.1 w high))) (cases_lt w d.wires);
      }

  -- no wire is driven by two blocks
  pub drives_alone : (j k w : ℕ) → j < length d.blocks → k < length d.blocks → j ≢ k → Drives d j w → times w (outs (block_at d k).outputs) ≡ 0
  drives_alone j k w lj lk ne h =
      let inside = drives_within j w lj h in
      let one = is.wired.driven_once w inside.from inside.to in
      ⊎_elim (λ l. omega (arith, times_two w j k d.blocks l lk)) (λ g. omega (arith, times_two w k j d.blocks (omega (arith, ne)) lj)) (cases_lt j k)

  -- nor by one block twice
  pub drives_once : (k w : ℕ) → k < length d.blocks → times w (outs (block_at d k).outputs) ≤ 1
  drives_once k w l =
      ⊎_elim (λ low. omega (arith, times_one w k d.blocks l, is.wired.drives_within.0 w low))
      (λ from. ⊎_elim (λ to. omega (arith, times_one w k d.blocks l, is.wired.driven_once w from to)) (λ high. omega (arith, times_one w k d.blocks l, is.wired.drives_within.1 w high)) (cases_lt w d.wires))
      (cases_lt w d.inputs)

-- something of each output, from something else
pub each_map : (o : OutPorts) {P Q : ℕ → ℕ → Type 0} → ((w port : ℕ) → 0 < times w (outs o) → P w port → Q w port) → EachOutput o P → EachOutput o Q
each_map (OneOut p) f h = f p 0 (first_counts p []) h
each_map (TwoOut p q) f h = (f p 0 (first_counts p (q ∷ [])) h.0, f q 1 (omega (arith, first_counts q [])) h.1)

pub each_both : (o : OutPorts) (P Q : ℕ → ℕ → Type 0) → EachOutput o P → EachOutput o Q → EachOutput o (λ w port. P w port × Q w port)
each_both (OneOut p) P Q h k = (h, k)
each_both (TwoOut p q) P Q h k = ((h.0, k.0), (h.1, k.1))

twice : (p q : ℕ) → p ≡ q → times p (p ∷ q ∷ []) ≡ 2
twice p q e = omega (arith, ap {B = ℕ} (λ t. cond t 1 0) (eq-eqb p p refl), ap {B = ℕ} (λ t. cond t 1 0) (eq-eqb q p (sym e)))

not_there : (w x : ℕ) (xs : List ℕ) → times w (x ∷ xs) ≡ 0 → w ≢ x
not_there w x xs z e = absurd (omega (arith, ap {B = ℕ} (λ t. cond t 1 0) (eq-eqb x w (sym e))))

-- the outputs take their answers, and no other wire changes
pub length_outs : {V : Type 0} (ws : List (Signal V)) (o : OutPorts) (f : ℕ → Signal V) → length (put_outs ws o f) ≡ length ws
length_outs ws (OneOut p) f = length_put ws p (f 0)
length_outs ws (TwoOut p q) f = length_put (put ws p (f 0)) q (f 1) ∙ length_put ws p (f 0)

pub other_wires : {V : Type 0} (ws : List (Signal V)) (o : OutPorts) (f : ℕ → Signal V) (w : ℕ) → times w (outs o) ≡ 0 → at (put_outs ws o f) w ≡ at ws w
other_wires ws (OneOut p) f w z = at_put_other ws p w (f 0) (not_there w p [] z)
other_wires ws (TwoOut p q) f w z =
    at_put_other (put ws p (f 0)) q w (f 1) (not_there w q [] (omega arith)) ∙ at_put_other ws p w (f 0) (not_there w p (q ∷ []) z)

pub own_wires : {V : Type 0} (ws : List (Signal V)) (o : OutPorts) (f : ℕ → Signal V) → ((w : ℕ) → 0 < times w (outs o) → w < length ws) → ((w : ℕ) → times w (outs o) ≤ 1) → EachOutput o (λ w port. at (put_outs ws o f) w ≡ takes (at ws w) (f port))
own_wires ws (OneOut p) f inside once = at_put_same ws p (f 0) (inside p (first_counts p []))
own_wires ws (TwoOut p q) f inside once =
    let apart : p ≢ q = λ e. absurd (omega (arith, once p, twice p q e)) in
    let q_in : q < length (put ws p (f 0)) = omega (arith, length_put ws p (f 0), inside q (omega (arith, first_counts q []))) in (
      at_put_other (put ws p (f 0)) q p (f 1) apart ∙ at_put_same ws p (f 0) (inside p (first_counts p (q ∷ []))),
      at_put_same (put ws p (f 0)) q (f 1) q_in ∙ ap (λ s. takes s (f 1)) (at_put_other ws p q (f 0) (λ e. apart (sym e))),
    )
