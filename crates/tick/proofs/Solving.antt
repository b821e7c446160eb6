-- A tick leaves the least solution.
use Rattle.std.proofs.Common.{◌≡◌, ℕ, suc, ◌+◌, ◌-◌, ◌<◌, List, [], ◌∷◌, ◌++◌, length, set, replicate, Some, None, Ok, Err, Option, Result, sym, refl, ap, ◌∙◌, subst, subst₂, ⊎_elim, arith, length-set}
use Rattle.std.proofs.lemmas.List.{length-replicate, length-append, append_assoc, set-append_left, replicate-append-replicate}
use Rattle.text.specs.declared.fault.Fault.{Fault}
use Rattle.text.specs.Results.{mapped}
use Rattle.text.proofs.ResultLaws.{never_ok, same_ok, then_ok, mapped_ok}
use Rattle.kit.specs.declared.signal.Signal.{Signal}
use Rattle.kit.specs.declared.signal.Signal.TheVariants.{Unknown, Absent, Present}
use Rattle.kit.specs.Cells.{Cell}
use Rattle.kit.specs.Meaning.{Meaning, Lawful}
use Rattle.draft.specs.Drawings.{Drawing}
use Rattle.diagram.specs.Reading.{IsDiagram}
use Rattle.machine.specs.declared.answers.Given.{Given}
use Rattle.machine.specs.declared.answers.Intent.TheVariants.{Keep}
use Rattle.machine.specs.declared.answers.Closed.{Closed}
use Rattle.machine.specs.declared.answers.Closed.TheVariants.{Kept, Undetermined}
use Rattle.machine.specs.declared.answers.Settled.{Settled}
use Rattle.machine.specs.declared.answers.Phase.{Phase}
use Rattle.machine.specs.declared.answers.Phase.TheVariants.{Resting, Open, Void}
use Rattle.machine.specs.Machine.{State, Token, begin, begun, supply, settle, settle_in, close, signal_of, lowest_unknown, next_cells}
use Rattle.machine.specs.Settling.{settled, settle_answer}
use Rattle.machine.specs.Solutions.{Least}
use Rattle.machine.specs.Tables.{at}
use Rattle.machine.proofs.Accepted.{begun_so, supplied_so, settled_so, Moves, Stays, closed_so}
use Rattle.machine.proofs.Holding.{HoldsOn, none_supplied, supply_holds, least_if}
use Rattle.machine.proofs.Keeping.{none_unknown, length_next, next_at}
use Rattle.machine.proofs.Settles.{settles_all}
use Rattle.tick.specs.declared.played.Played.{Played}
use Rattle.tick.specs.Solving.{inputs_given, wires_given, Solves}
use Rattle.tick.specs.Ticks.{unless, supplied, finished, fed, opened, played}

-- the inputs from w on, one after the other
abbrev filled : {V : Type 0} → ℕ → List (Signal V) → List (Option (Given V)) → List (Signal V)
filled w inputs [] = inputs
filled w inputs (None ∷ gs) = filled (w + 1) inputs gs
filled w inputs (Some g ∷ gs) = filled (w + 1) (set inputs w (signal_of g)) gs

set_there : {A : Type 0} (pre : List A) (x y : A) (rest : List A) → set (pre ++ x ∷ rest) (length pre) y ≡ pre ++ y ∷ rest
set_there [] x y rest = refl
set_there (p ∷ pre) x y rest = ap (λ l. p ∷ l) (set_there pre x y rest)

-- what is filled into unknown inputs is what is given
filled_given : {V : Type 0} (gs : List (Option (Given V))) (pre : List (Signal V)) (w : ℕ) → length pre ≡ w → filled w (pre ++ replicate (length gs) Unknown) gs ≡ pre ++ inputs_given gs
filled_given [] pre w e = refl
filled_given (None ∷ gs) pre w e =
    ap (λ l. filled (w + 1) l gs) (sym (append_assoc pre (Unknown ∷ []) (replicate (length gs) Unknown)))
    ∙ filled_given gs (pre ++ Unknown ∷ []) (w + 1) (length-append pre (Unknown ∷ []) ∙ omega (arith, e))
    ∙ append_assoc pre (Unknown ∷ []) (inputs_given gs)
filled_given (Some g ∷ gs) pre w e =
    ap (λ l. filled (w + 1) l gs) (ap (λ k. set (pre ++ Unknown ∷ replicate (length gs) Unknown) k (signal_of g)) (sym e) ∙ set_there pre Unknown (signal_of g) (replicate (length gs) Unknown) ∙ sym (append_assoc pre (signal_of g ∷ []) (replicate (length gs) Unknown)))
    ∙ filled_given gs (pre ++ signal_of g ∷ []) (w + 1) (length-append pre (signal_of g ∷ []) ∙ omega (arith, e))
    ∙ append_assoc pre (signal_of g ∷ []) (inputs_given gs)

-- a wire that is unknown, where there is one
lowest_is : {V : Type 0} (ws : List (Signal V)) → (lowest_unknown ws ≡ length ws → ⊥) → (lowest_unknown ws < length ws) × (at ws (lowest_unknown ws) ≡ Unknown)
lowest_is [] h = absurd (h refl)
lowest_is (Unknown ∷ ws) h = (omega arith, refl)
lowest_is (Absent ∷ ws) h = let low = lowest_is ws (λ e. h (ap suc e)) in (omega (arith, low.0), low.1)
lowest_is (Present v ∷ ws) h = let low = lowest_is ws (λ e. h (ap suc e)) in (omega (arith, low.0), low.1)

-- what an accepted settle answered
answered_in : {V : Type 0} (m : Meaning V) (d : Drawing) (s : State V) (n : Settled) (p : Phase) → (settle_in p m d s).answer ≡ Ok n → n ≡ settle_answer m d s.cells s.wires
answered_in m d s n Resting h = never_ok h
answered_in m d s n Open h = sym (same_ok h)
answered_in m d s n (Void f) h = never_ok h

answered_so : {V : Type 0} (m : Meaning V) (d : Drawing) (s : State V) (n : Settled) → (settle m d s).answer ≡ Ok n → n ≡ settle_answer m d s.cells s.wires
unfolding settle
answered_so m d s n h = answered_in m d s n s.phase h

not_kept : (w : ℕ) → ◌≡◌ {A = Closed} (Undetermined w) Kept → ⊥
not_kept w e = let z : ◌≡◌ {A = ℕ} 0 1 = cc in absurd (omega arith)

module _ {V : Type 0} (m : Meaning V) (law : Lawful m) (d : Drawing) (is : IsDiagram d) where
  -- the run between its calls in a tick
  record Ready (cells : List (Cell V)) (inputs : List (Signal V)) (s : State V) : Type 0 where
    holds : HoldsOn m d cells inputs s.wires
    many : length inputs ≡ d.inputs
    same : s.cells ≡ cells
    only : s.wires ≡ inputs ++ replicate (d.wires - d.inputs) Unknown

  supplied_ready : (cells : List (Cell V)) (gs : List (Option (Given V))) (w : ℕ) (inputs : List (Signal V)) (s : State V) (u : Unit {0}) → Ready cells inputs s → (supplied d s w gs).answer ≡ Ok u → Ready cells (filled w inputs gs) (supplied d s w gs).state
  unfolding supplied
  supplied_ready cells [] w inputs s u r h = r
  supplied_ready cells (None ∷ gs) w inputs s u r h = supplied_ready cells gs (w + 1) inputs s u r h
  supplied_ready cells (Some g ∷ gs) w inputs s u r h =
      go (supply d s w g).answer refl h (λ next ok. supplied_ready cells gs (w + 1) (set inputs w (signal_of g)) (supply d s w g).state u next ok)
    where
      go : (a : Result (Unit {0}) Fault) → (supply d s w g).answer ≡ a → (unless (supply d s w g) (supplied d (supply d s w g).state (w + 1) gs) a).answer ≡ Ok u → (Ready cells (set inputs w (signal_of g)) (supply d s w g).state → (supplied d (supply d s w g).state (w + 1) gs).answer ≡ Ok u → Ready cells (filled (w + 1) (set inputs w (signal_of g)) gs) (supplied d (supply d s w g).state (w + 1) gs).state) → Ready cells (filled (w + 1) (set inputs w (signal_of g)) gs) (unless (supply d s w g) (supplied d (supply d s w g).state (w + 1) gs) a).state
      go (Err f) e h next = never_ok h
      go (Ok v) e h next =
          let x = supplied_so d s w g v e in
          next (subst (Ready cells (set inputs w (signal_of g))) (sym x.is) (record { holds = supply_holds m law d is cells inputs s.wires w (signal_of g) r.many x.below x.was r.holds; many = length-set inputs w (signal_of g) ∙ r.many; same = r.same; only = ap (λ ws. set ws w (signal_of g)) r.only ∙ set-append_left inputs (replicate (d.wires - d.inputs) Unknown) w (signal_of g) (omega (arith, x.below, r.many)) })) h

  module _ (s : State V) (gs : List (Option (Given V))) (wide : length s.wires ≡ d.wires) (deep : length s.cells ≡ length d.blocks) (many : length gs ≡ d.inputs) where
    -- a tick that took so many rounds, was closed as c, and left s'
    pub record Left (c : Closed) (rounds : ℕ) (s' : State V) : Type 0 where
      pub solves : Solves m d s.cells gs c rounds s'.wires s'.cells
      pub wide_still : length s'.wires ≡ d.wires
      pub deep_still : length s'.cells ≡ length d.blocks

    begun_ready : Ready s.cells (replicate d.inputs Unknown) (begun s)
    begun_ready = record { holds = subst (λ n. HoldsOn m d s.cells (replicate d.inputs Unknown) (replicate n Unknown)) (sym wide) (none_supplied m d s.cells); many = length-replicate d.inputs Unknown; same = refl; only = ap (λ n. replicate n Unknown) (wide ∙ omega (arith, is.drawable.inputs_among)) ∙ sym (replicate-append-replicate d.inputs (d.wires - d.inputs) Unknown) }

    fed_ready : (u : Unit {0}) → (supplied d (begun s) 0 gs).answer ≡ Ok u → Ready s.cells (inputs_given gs) (supplied d (begun s) 0 gs).state
    fed_ready u h =
        let given : filled 0 (replicate d.inputs Unknown) gs ≡ inputs_given gs = ap (λ n. filled 0 (replicate n Unknown) gs) (sym many) ∙ filled_given gs [] 0 refl in
        subst (λ i. Ready s.cells i (supplied d (begun s) 0 gs).state) given (supplied_ready s.cells gs 0 (replicate d.inputs Unknown) (begun s) u begun_ready h)

    -- the wires are lw and hold the least solution
    module _ (lw : List (Signal V)) (least : Least m d s.cells (inputs_given gs) lw) (c : Closed) (rounds : ℕ) (took : rounds ≡ (settled m d s.cells (wires_given d gs)).count) (s₃ s₄ : State V) (wires : s₃.wires ≡ lw) (cells : s₃.cells ≡ s.cells) where
      kept_left : Moves m d s₃ c s₄ → Left c rounds s₄
      kept_left x =
          let next = next_cells m lw d.blocks s.cells in
          let full : lowest_unknown lw ≡ length lw = sym (ap lowest_unknown wires) ∙ x.all ∙ ap length wires in
          let ws : s₄.wires ≡ lw = ap (λ y. y.wires) x.is ∙ wires in
          let cs : s₄.cells ≡ next = ap (λ y. y.cells) x.is ∙ (λ i. next_cells m (wires i) d.blocks (cells i)) in
          let at_lw : Solves m d s.cells gs c rounds lw next =
          record {
            least = least;
            took = took;
            all_known = λ _. none_unknown lw full;
            kept = λ _. x.kept;
            moved = λ _. record { as_many = length_next m lw d.blocks s.cells deep; each = next_at m lw d.blocks s.cells deep };
            stayed = λ no_way. absurd (no_way x.kept);
          } in
          record { solves = subst₂ (λ a b. Solves m d s.cells gs c rounds a b) (sym ws) (sym cs) at_lw; wide_still = ap length ws ∙ least.solves.long; deep_still = ap length cs ∙ length_next m lw d.blocks s.cells deep ∙ deep }

      stayed_left : Stays m d s₃ c s₄ → Left c rounds s₄
      stayed_left x =
          let ws : s₄.wires ≡ lw = ap (λ y. y.wires) x.is ∙ wires in
          let cs : s₄.cells ≡ s.cells = ap (λ y. y.cells) x.is ∙ cells in
          let low = lowest_is lw (λ e. x.some (ap lowest_unknown wires ∙ e ∙ sym (ap length wires))) in
          let not_so : c ≡ Kept → ⊥ = λ e. not_kept (lowest_unknown s₃.wires) (sym x.told ∙ e) in
          let at_lw : Solves m d s.cells gs c rounds lw s.cells =
          record { least = least; took = took; all_known = λ e. absurd (not_so e); kept = λ none. absurd (none (lowest_unknown lw) low.0 low.1); moved = λ e. absurd (not_so e); stayed = λ _. refl } in
          record { solves = subst₂ (λ a b. Solves m d s.cells gs c rounds a b) (sym ws) (sym cs) at_lw; wide_still = ap length ws ∙ least.solves.long; deep_still = ap length cs ∙ deep }

    finished_left : (t : Token) (s₂ : State V) (p : Played) → Ready s.cells (inputs_given gs) s₂ → (finished m d t Keep s₂).answer ≡ Ok p → Left p.closed p.settled.rounds (finished m d t Keep s₂).state
    finished_left t s₂ p r h =
        let s₃ = (settle m d s₂).state in
        let n = then_ok (settle m d s₂).answer (λ n. mapped (λ c. record { settled = n; closed = c }) (close m d s₃ t Keep).answer) p h in
        let c = mapped_ok (λ c. record { settled = n.0; closed = c }) (close m d s₃ t Keep).answer p n.2 in
        let after = settled_so m d s₂ n.0 n.1 in
        let lw = (settled m d s.cells s₂.wires).wires in
        let x = settles_all m law d is s.cells (inputs_given gs) s₂.wires r.holds in
        let least = least_if m law d is s.cells (inputs_given gs) lw x.holds x.solves in
        let wires : s₃.wires ≡ lw = ap (λ y. y.wires) after ∙ ap (λ cs. (settled m d cs s₂.wires).wires) r.same in
        let cells : s₃.cells ≡ s.cells = ap (λ y. y.cells) after ∙ r.same in
        let took : n.0.rounds ≡ (settled m d s.cells (wires_given d gs)).count = ap (λ y. y.rounds) (answered_so m d s₂ n.0 n.1) ∙ (λ i. (settled m d (r.same i) (r.only i)).count) in
        subst (λ (z : Played). Left z.closed z.settled.rounds (close m d s₃ t Keep).state) c.2
        (⊎_elim (kept_left lw least c.0 n.0.rounds took s₃ (close m d s₃ t Keep).state wires cells) (stayed_left lw least c.0 n.0.rounds took s₃ (close m d s₃ t Keep).state wires cells) (closed_so m d s₃ t c.0 c.1))

    fed_left : (t : Token) (p : Played) (a : Result (Unit {0}) Fault) → (supplied d (begun s) 0 gs).answer ≡ a → (fed m d t Keep (supplied d (begun s) 0 gs).state a).answer ≡ Ok p → Left p.closed p.settled.rounds (fed m d t Keep (supplied d (begun s) 0 gs).state a).state
    fed_left t p (Err f) e h = never_ok h
    fed_left t p (Ok u) e h = finished_left t (supplied d (begun s) 0 gs).state p (fed_ready u e) h

    opened_left : (p : Played) (a : Result Token Fault) → (begin s).answer ≡ a → (opened m d (begin s).state gs Keep a).answer ≡ Ok p → Left p.closed p.settled.rounds (opened m d (begin s).state gs Keep a).state
    opened_left p (Err f) e h = never_ok h
    opened_left p (Ok t) e h =
        let so = begun_so s t e in
        subst (λ z. (opened m d z gs Keep (Ok t)).answer ≡ Ok p → Left p.closed p.settled.rounds (opened m d z gs Keep (Ok t)).state) (sym so)
        (λ h'. fed_left t p (supplied d (begun s) 0 gs).answer refl h') h

    pub played_left : (p : Played) → (played m d s gs Keep).answer ≡ Ok p → Left p.closed p.settled.rounds (played m d s gs Keep).state
    unfolding played
    played_left p h = opened_left p (begin s).answer refl h
