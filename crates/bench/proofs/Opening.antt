-- A list, from its diagram to its run.
use Rattle.std.proofs.Common.{◌≡◌, ℕ, List, length, ℤ, Ok, Err, Option, sym, ap, ◌∙◌, None}
use Rattle.std.proofs.lemmas.List.{length-replicate}
use Rattle.text.specs.declared.fault.Fault.{Fault}
use Rattle.kit.specs.declared.signal.Signal.{Signal}
use Rattle.kit.specs.declared.signal.Signal.TheVariants.{Unknown}
use Rattle.kit.specs.Cells.{Cell}
use Rattle.kit.specs.Meaning.{Meaning}
use Rattle.draft.specs.Drawings.{Drawing}
use Rattle.machine.specs.Machine.{check_new, made_from}
use Rattle.bench.specs.Lists.{refused_by, made, run_of, ticks_of, lent_wires, lent_cells, drawn, opened, listed, cut_at, first_tick, tick_lines}

module _ {V : Type 0} (valued : ℤ → Option V) (m : Meaning V) where
  module _ (d : Drawing) (k : ℕ) (lines : List (List ℕ)) (wires : List (Signal V)) (cells : List (Cell V)) (w : length wires ≡ d.wires) (c : length cells ≡ length d.blocks) where
    -- only the lengths of the tables are looked at
    begins : run_of valued m d k lines ≡ made valued m d k lines (check_new m d (length wires) (length cells))
    unfolding run_of
    begins =
        let as_wide : length (lent_wires {V = V} d) ≡ length wires = length-replicate d.wires Unknown ∙ sym w in
        let as_many : length (lent_cells {V = V} d) ≡ length cells = length-replicate (length d.blocks) None ∙ sym c in
        λ i. made valued m d k lines (check_new m d (as_wide i) (as_many i))

    pub run_refused : (f : Fault) → check_new m d (length wires) (length cells) ≡ Err f → run_of valued m d k lines ≡ refused_by f
    run_refused f bad = begins ∙ ap (made valued m d k lines) bad

    pub run_made : (u : Unit {0}) → check_new m d (length wires) (length cells) ≡ Ok u → run_of valued m d k lines ≡ ticks_of valued m d (made_from (check_new m d (length wires) (length cells)) m d 0 wires cells) k lines
    run_made u ok =
        let fresh : made_from (check_new m d (length wires) (length cells)) m d 0 wires cells ≡ made_from (Ok tt) m d 0 wires cells = ap (λ r. made_from r m d 0 wires cells) ok in
        let lent : length (lent_wires {V = V} d) ≡ length wires = length-replicate d.wires Unknown ∙ sym w in
        let kept : length (lent_cells {V = V} d) ≡ length cells = length-replicate (length d.blocks) None ∙ sym c in
        let good : check_new m d (length (lent_wires {V = V} d)) (length (lent_cells {V = V} d)) ≡ Ok tt = (λ i. check_new m d (lent i) (kept i)) ∙ ok in
        begins ∙ ap (made valued m d k lines) ok
        ∙ ap (λ r. ticks_of valued m d (made_from r m d 0 (lent_wires d) (lent_cells d)) k lines) good
        ∙ sym (ap (λ s. ticks_of valued m d s k lines) fresh)

  module _ (input : List ℕ) where
    pub list_refused : (f : Fault) → drawn input (cut_at input) ≡ Err f → listed valued m input ≡ refused_by f
    unfolding listed
    list_refused f bad = ap (opened valued m input) bad

    pub list_opened : (d : Drawing) → drawn input (cut_at input) ≡ Ok d → listed valued m input ≡ run_of valued m d (first_tick input) (tick_lines input)
    unfolding listed
    list_opened d ok = ap (opened valued m input) ok
