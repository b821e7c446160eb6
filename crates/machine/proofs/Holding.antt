-- What firing keeps: the wires hold what is supplied, are supported by their blocks, and lie below every solution.
use Rattle.std.proofs.Common.{◌≡◌, ℕ, zero, suc, ◌+◌, ◌-◌, ◌<◌, ◌≤◌, ◌≢◌, List, length, set, replicate, sym, ap, ◌∙◌, subst, ⊎_elim, add-zero, add-suc, zero-add, arith}
use Rattle.std.proofs.lemmas.List.{length-set, length-replicate, get_or-set_same, get_or-set_other, get_or-replicate, get_or_past}
use Rattle.std.proofs.lemmas.Bool.{cases_eq, cases_lt}
use Rattle.kit.specs.declared.signal.Signal.{Signal}
use Rattle.kit.specs.declared.signal.Signal.TheVariants.{Unknown}
use Rattle.kit.specs.Cells.{Cell}
use Rattle.kit.specs.Meaning.{Meaning, Lawful}
use Rattle.kit.specs.Order.{◌⊑◌}
use Rattle.kit.proofs.AtMost.{at_most_equal, at_most_trans}
use Rattle.draft.specs.declared.block.Block.{Block}
use Rattle.draft.specs.declared.block.OutPorts.{OutPorts}
use Rattle.draft.specs.declared.block.OutPorts.TheVariants.{One as OneOut, Two as TwoOut}
use Rattle.draft.specs.Drawings.{Drawing}
use Rattle.diagram.specs.Reading.{IsDiagram}
use Rattle.diagram.specs.Wiring.{outs, times}
use Rattle.machine.specs.Firing.{put, put_outs, after_fire, fired, round}
use Rattle.machine.specs.Solutions.{EachOutput, Solution, Least}
use Rattle.machine.specs.Tables.{at, cell_at, block_at, answer}
use Rattle.machine.proofs.Drives.{drives_within, drives_alone, drives_once, each_map, each_both, length_outs, other_wires, own_wires}
use Rattle.machine.proofs.Rows.{◌≼◌, rows_refl, rows_trans, rows_antisym, reads_rise, takes_below, takes_same, put_rises, put_below, put_itself}

-- at least what is supplied, and at least what the blocks answer on it: every solution is so
pub record Above {V : Type 0} (m : Meaning V) (d : Drawing) (cells : List (Cell V)) (inputs t : List (Signal V)) : Type 0 where
  pub supplied : (w : ℕ) → w < d.inputs → at inputs w ⊑ at t w
  pub answered : (k : ℕ) → k < length d.blocks → EachOutput (block_at d k).outputs (λ w port. answer m t (block_at d k) (cell_at cells k) port ⊑ at t w)

-- what the wires of a tick keep, whatever is fired in whatever order
pub record HoldsOn {V : Type 0} (m : Meaning V) (d : Drawing) (cells : List (Cell V)) (inputs wires : List (Signal V)) : Type 0 where
  pub long : length wires ≡ d.wires
  pub supplied : (w : ℕ) → w < d.inputs → at wires w ≡ at inputs w
  pub supported : (k : ℕ) → k < length d.blocks → EachOutput (block_at d k).outputs (λ w port. at wires w ⊑ answer m wires (block_at d k) (cell_at cells k) port)
  pub below : (t : List (Signal V)) → Above m d cells inputs t → wires ≼ t

solution_above : {V : Type 0} (m : Meaning V) (d : Drawing) (cells : List (Cell V)) (inputs t : List (Signal V)) → Solution m d cells inputs t → Above m d cells inputs t
solution_above m d cells inputs t s =
    record {
      supplied = λ w l. at_most_equal (at inputs w) (at t w) (sym (s.supplied w l));
      answered = λ k l. each_map (block_at d k).outputs (λ w port h e. at_most_equal (answer m t (block_at d k) (cell_at cells k) port) (at t w) (sym e)) (s.answered k l);
    }

module _ {V : Type 0} (m : Meaning V) (law : Lawful m) (d : Drawing) (is : IsDiagram d) (cells : List (Cell V)) (inputs : List (Signal V)) where
  -- answers rise with the wires: law one
  answers_rise : (xs ys : List (Signal V)) (b : Block) (cell : Cell V) (port : ℕ) → xs ≼ ys → answer m xs b cell port ⊑ answer m ys b cell port
  answers_rise xs ys b cell port h = law.monotone b.kind b.parameter cell port _ _ (reads_rise xs ys b.inputs h)

  -- wires that hold on are below every solution
  pub below_solution : (wires t : List (Signal V)) → HoldsOn m d cells inputs wires → Solution m d cells inputs t → wires ≼ t
  below_solution wires t h s = h.below t (solution_above m d cells inputs t s)

  -- so a solution that holds on is the least
  pub least_if : (wires : List (Signal V)) → HoldsOn m d cells inputs wires → Solution m d cells inputs wires → Least m d cells inputs wires
  least_if wires h s = record { solves = s; least = λ t st. below_solution wires t h st }

  -- where the outputs of a block lie
  inside : (wires : List (Signal V)) (k : ℕ) → length wires ≡ d.wires → k < length d.blocks → (w : ℕ) → 0 < times w (outs (block_at d k).outputs) → w < length wires
  inside wires k long l w h = omega (arith, (drives_within d is k w l h).to)

  -- one firing: the wires rise
  outs_rise : (wires : List (Signal V)) (o : OutPorts) (f : ℕ → Signal V) → wires ≼ put_outs wires o f
  outs_rise wires (OneOut p) f = put_rises wires p (f 0)
  outs_rise wires (TwoOut p q) f = rows_trans wires (put wires p (f 0)) _ (put_rises wires p (f 0)) (put_rises (put wires p (f 0)) q (f 1))

  -- and stay below what the answers are below
  outs_below : (wires t : List (Signal V)) (o : OutPorts) (f : ℕ → Signal V) → wires ≼ t → EachOutput o (λ w port. f port ⊑ at t w) → put_outs wires o f ≼ t
  outs_below wires t (OneOut p) f h e = put_below wires t p (f 0) h e
  outs_below wires t (TwoOut p q) f h e = put_below (put wires p (f 0)) t q (f 1) (put_below wires t p (f 0) h e.0) e.1

  pub fire_rises : (wires : List (Signal V)) (k : ℕ) → wires ≼ after_fire m wires (block_at d k) (cell_at cells k)
  fire_rises wires k = outs_rise wires (block_at d k).outputs (answer m wires (block_at d k) (cell_at cells k))

  -- a firing keeps what holds
  pub fire_holds : (wires : List (Signal V)) (k : ℕ) → k < length d.blocks → HoldsOn m d cells inputs wires → HoldsOn m d cells inputs (after_fire m wires (block_at d k) (cell_at cells k))
  fire_holds wires k l h =
      let o = (block_at d k).outputs in
      let f = answer m wires (block_at d k) (cell_at cells k) in
      let after = put_outs wires o f in
      let up = outs_rise wires o f in
      let not_driven : (w : ℕ) → w < d.inputs → times w (outs o) ≡ 0 = λ w low.
      ⊎_elim (λ z. omega arith) (λ some. absurd (omega (arith, (drives_within d is k w l some).from))) (cases_lt (times w (outs o)) 1)
      in
      let own = own_wires wires o f (inside wires k h.long l) (λ w. drives_once d is k w l) in
      record {
        long = length_outs wires o f ∙ h.long;
        supplied = λ w low. other_wires wires o f w (not_driven w low) ∙ h.supplied w low;
        supported = λ j lj.
            let b = block_at d j in
            let c = cell_at cells j in
            let rise = λ (port : ℕ). answers_rise wires after b c port up in
            ⊎_elim
            (λ e.
            subst (λ i. EachOutput (block_at d i).outputs (λ w port. at after w ⊑ answer m after (block_at d i) (cell_at cells i) port)) (sym e)
            (each_map o (λ w port some both. subst (λ x. x ⊑ answer m after (block_at d k) (cell_at cells k) port) (sym both.0)
            (takes_below (at wires w) (f port) _
            (at_most_trans (at wires w) (f port) _ both.1 (answers_rise wires after (block_at d k) (cell_at cells k) port up))
            (answers_rise wires after (block_at d k) (cell_at cells k) port up)))
            (each_both o _ _ own (h.supported k l))))
            (λ ne.
            each_map b.outputs (λ w port some s. subst (λ x. x ⊑ answer m after b c port) (sym (other_wires wires o f w (drives_alone d is j k w lj l ne some)))
            (at_most_trans (at wires w) (answer m wires b c port) (answer m after b c port) s (rise port)))
            (h.supported j lj))
            (cases_eq j k);
        below = λ t a.
            let low = h.below t a in
            outs_below wires t o f low (each_map o (λ w port some s. at_most_trans (f port) (answer m t (block_at d k) (cell_at cells k) port) (at t w) (answers_rise wires t (block_at d k) (cell_at cells k) port low) s) (a.answered k l));
      }

  -- so does a round
  pub fired_holds : (wires : List (Signal V)) (j : ℕ) → j ≤ length d.blocks → HoldsOn m d cells inputs wires → HoldsOn m d cells inputs (fired m d cells wires j)
  fired_holds wires zero l h = h
  fired_holds wires (suc j) l h = fire_holds (fired m d cells wires j) j (omega arith) (fired_holds wires j (omega arith) h)

  pub fired_rises : (wires : List (Signal V)) (i j : ℕ) → fired m d cells wires i ≼ fired m d cells wires (i + j)
  fired_rises wires i zero = subst (λ n. fired m d cells wires i ≼ fired m d cells wires n) (sym (add-zero i)) (rows_refl (fired m d cells wires i))
  fired_rises wires i (suc j) =
      subst (λ n. fired m d cells wires i ≼ fired m d cells wires n) (sym (add-suc i j))
      (rows_trans (fired m d cells wires i) (fired m d cells wires (i + j)) (fired m d cells wires (suc (i + j))) (fired_rises wires i j) (fire_rises (fired m d cells wires (i + j)) (i + j)))

  -- a round that changes nothing: the wires are a solution
  pub still_solves : (wires : List (Signal V)) → HoldsOn m d cells inputs wires → round m d cells wires ≡ wires → Solution m d cells inputs wires
  still_solves wires h same =
      record {
        long = h.long;
        supplied = h.supplied;
        answered = λ k l.
            let o = (block_at d k).outputs in
            let f = answer m wires (block_at d k) (cell_at cells k) in
            let n = length d.blocks in
            let before : fired m d cells wires k ≡ wires = between k (omega arith) in
            let after : put_outs wires o f ≡ wires = ap (λ ws. after_fire m ws (block_at d k) (cell_at cells k)) (sym before) ∙ between (suc k) (omega arith) in
            each_map o (λ w port some both. takes_same (at wires w) (f port) both.1 (sym both.0 ∙ ap (λ ws. at ws w) after))
            (each_both o _ _ (own_wires wires o f (inside wires k h.long l) (λ w. drives_once d is k w l)) (h.supported k l));
      }
    where
      between : (j : ℕ) → j ≤ length d.blocks → fired m d cells wires j ≡ wires
      between j l =
          let n = length d.blocks in
          let rest : j + (n - j) ≡ n = omega arith in
          rows_antisym (fired m d cells wires j) wires ((fired_holds wires j l h).long ∙ sym h.long)
          (subst (λ ws. fired m d cells wires j ≼ ws) same (subst (λ i. fired m d cells wires j ≼ fired m d cells wires i) rest (fired_rises wires j (n - j))))
          (subst (λ i. wires ≼ fired m d cells wires i) (zero-add j) (fired_rises wires 0 j))

  -- firing changes nothing in a solution
  pub solved_fire : (wires : List (Signal V)) (k : ℕ) → k < length d.blocks → Solution m d cells inputs wires → after_fire m wires (block_at d k) (cell_at cells k) ≡ wires
  solved_fire wires k l s = by_outs (block_at d k).outputs (answer m wires (block_at d k) (cell_at cells k)) (s.answered k l)
    where
      by_outs : (o : OutPorts) (f : ℕ → Signal V) → EachOutput o (λ w port. at wires w ≡ f port) → put_outs wires o f ≡ wires
      by_outs (OneOut p) f e = put_itself wires p (f 0) e
      by_outs (TwoOut p q) f e = ap (λ ws. put ws q (f 1)) (put_itself wires p (f 0) e.0) ∙ put_itself wires q (f 1) e.1

pub blank_at : {V : Type 0} (n w : ℕ) → at {V = V} (replicate n Unknown) w ≡ Unknown
blank_at {V} n w =
    ⊎_elim (λ l. get_or-replicate n w Unknown Unknown l)
    (λ g. let ws : List (Signal V) = replicate n Unknown in let long : length ws ≡ n = length-replicate n Unknown in get_or_past ws w Unknown (omega arith))
    (cases_lt w n)

each_all : (o : OutPorts) {P : ℕ → ℕ → Type 0} → ((w port : ℕ) → 0 < times w (outs o) → P w port) → EachOutput o P
each_all o f = each_map o {P = λ w port. Unit {0}} (λ w port some u. f w port some) (units o)
  where
    units : (o : OutPorts) → EachOutput o (λ w port. Unit {0})
    units (OneOut p) = tt
    units (TwoOut p q) = (tt, tt)

-- something of each driven wire
pub each_driven : (d : Drawing) (is : IsDiagram d) (k : ℕ) → k < length d.blocks → {P : ℕ → ℕ → Type 0} → ((w port : ℕ) → d.inputs ≤ w → P w port) → EachOutput (block_at d k).outputs P
each_driven d is k l f = each_all (block_at d k).outputs (λ w port some. f w port (drives_within d is k w l some).from)

-- before anything is supplied nothing is known, and that holds on
pub none_supplied : {V : Type 0} (m : Meaning V) (d : Drawing) (cells : List (Cell V)) → HoldsOn m d cells (replicate d.inputs Unknown) (replicate d.wires Unknown)
none_supplied m d cells =
    record {
      long = length-replicate d.wires Unknown;
      supplied = λ w l. blank_at d.wires w ∙ sym (blank_at d.inputs w);
      supported = λ k l. each_all (block_at d k).outputs (λ w port some. subst (λ s. s ⊑ answer m (replicate d.wires Unknown) (block_at d k) (cell_at cells k) port) (sym (blank_at d.wires w)) tt);
      below = λ t a w. subst (λ s. s ⊑ at t w) (sym (blank_at d.wires w)) tt;
    }

-- one input more
pub supply_holds : {V : Type 0} (m : Meaning V) (law : Lawful m) (d : Drawing) (is : IsDiagram d) (cells : List (Cell V)) (inputs wires : List (Signal V)) (w : ℕ) (s : Signal V) → length inputs ≡ d.inputs → w < d.inputs → at wires w ≡ Unknown → HoldsOn m d cells inputs wires → HoldsOn m d cells (set inputs w s) (set wires w s)
supply_holds m law d is cells inputs wires w s long low unknown h =
    let among : w < length wires = omega (arith, h.long, is.drawable.inputs_among) in
    let here : at (set wires w s) w ≡ s = get_or-set_same wires w s Unknown among in
    let here_in : at (set inputs w s) w ≡ s = get_or-set_same inputs w s Unknown (omega arith) in
    let other = λ (v : ℕ) (ne : v ≢ w). get_or-set_other wires w v s Unknown ne in
    let other_in = λ (v : ℕ) (ne : v ≢ w). get_or-set_other inputs w v s Unknown ne in
    let up : wires ≼ set wires w s = λ v. ⊎_elim (λ e. subst (λ x. x ⊑ at (set wires w s) v) (sym (ap (at wires) e ∙ unknown)) tt) (λ ne. at_most_equal (at wires v) (at (set wires w s) v) (sym (other v ne))) (cases_eq v w) in
    record {
      long = length-set wires w s ∙ h.long;
      supplied = λ v l. ⊎_elim (λ e. ap (at (set wires w s)) e ∙ here ∙ sym (ap (at (set inputs w s)) e ∙ here_in)) (λ ne. other v ne ∙ h.supplied v l ∙ sym (other_in v ne)) (cases_eq v w);
      supported = λ k l.
          each_map (block_at d k).outputs (λ v port some sup.
          let ne : v ≢ w = λ e. absurd (omega (arith, (drives_within d is k v l some).from)) in
          subst (λ x. x ⊑ answer m (set wires w s) (block_at d k) (cell_at cells k) port) (sym (other v ne))
          (at_most_trans (at wires v) (answer m wires (block_at d k) (cell_at cells k) port) _ sup (answers_rise m law d is cells inputs wires (set wires w s) (block_at d k) (cell_at cells k) port up)))
          (h.supported k l);
      below = λ t a.
          let before : Above m d cells inputs t = record {
            supplied = λ v l. ⊎_elim (λ e. subst (λ x. x ⊑ at t v) (sym (ap (at inputs) e ∙ sym (h.supplied w low) ∙ unknown)) tt) (λ ne. subst (λ x. x ⊑ at t v) (other_in v ne) (a.supplied v l)) (cases_eq v w);
            answered = a.answered;
          } in
          λ v. ⊎_elim (λ e. subst (λ x. x ⊑ at t v) (ap (at (set inputs w s)) e ∙ here_in ∙ sym (ap (at (set wires w s)) e ∙ here)) (a.supplied v (omega (arith, e)))) (λ ne. subst (λ x. x ⊑ at t v) (sym (other v ne)) (h.below t before v)) (cases_eq v w);
    }
