-- Every list tells least solutions.
use Rattle.std.proofs.Common.{◌≡◌, ℕ, zero, suc, ◌+◌, Bool, true, false, cond, eqb, leb, List, [], ◌∷◌, length, take, ℤ, Ok, Err, codes, Option, Result, sym, refl, ap, ◌∙◌, subst}
use Rattle.std.proofs.lemmas.List.{length-replicate}
use Rattle.text.specs.declared.fault.Cause.TheVariants.{FieldCount, LongInput}
use Rattle.text.specs.declared.fault.Fault.{Fault}
use Rattle.text.specs.Pieces.{fields_of, field}
use Rattle.text.specs.Results.{mapped, placed, fault}
use Rattle.text.specs.Walk.{word_in}
use Rattle.text.proofs.ResultLaws.{same_ok, then_ok, mapped_ok, passed}
use Rattle.kit.specs.declared.signal.Signal.TheVariants.{Unknown}
use Rattle.kit.specs.Meaning.{Meaning, Lawful}
use Rattle.draft.specs.Drawings.{Drawing}
use Rattle.diagram.specs.Reading.{IsDiagram, read_of}
use Rattle.diagram.proofs.ReadLaws.{reads_exactly}
use Rattle.machine.specs.declared.answers.Given.{Given}
use Rattle.machine.specs.declared.answers.Intent.TheVariants.{Keep}
use Rattle.machine.specs.Machine.{State, check_new, made_from, starts}
use Rattle.machine.proofs.Standing.{length_starts}
use Rattle.profile.specs.Opening.{most_bytes}
use Rattle.tick.specs.declared.played.Played.{Played}
use Rattle.tick.specs.Ticks.{played}
use Rattle.tick.proofs.Solving.{played_left}
use Rattle.bench.specs.Lists.{ends, refused_by, supplied_tick, after_tick, ticks_of, lent_wires, lent_cells, made, run_of, drawn, opened, listed, cut_at, first_tick, tick_lines}
use Rattle.bench.specs.Telling.{Tells, TellsLeast}
use Rattle.bench.specs.TickLines.{tick_line, inputs_in}

-- a line supplies as many inputs as it is asked for
inputs_many : {V : Type 0} (valued : ℤ → Option V) (k j n : ℕ) (fs : List (List ℕ)) (gs : List (Option (Given V))) → inputs_in valued k j n fs ≡ Ok gs → length gs ≡ n
unfolding inputs_in
inputs_many valued k j zero fs gs h = ap length (sym (same_ok h))
inputs_many valued k j (suc n) fs gs h =
    let first = then_ok _ (λ g. mapped (λ hs. g ∷ hs) (inputs_in valued k (j + 1) n fs)) gs h in
    let rest = mapped_ok (λ hs. first.0 ∷ hs) (inputs_in valued k (j + 1) n fs) gs first.2 in
    ap length (sym rest.2) ∙ ap suc (inputs_many valued k (j + 1) n fs rest.0 rest.1)

line_many : {V : Type 0} (valued : ℤ → Option V) (k e : ℕ) (fs : List (List ℕ)) (gs : List (Option (Given V))) → tick_line valued k e fs ≡ Ok gs → length gs ≡ e
unfolding tick_line
line_many valued k e fs gs h =
    let word = then_ok (placed k 1 (word_in (codes "tick") (field fs 0))) (λ _. cond (eqb (length fs) (e + 1)) (inputs_in valued k 1 e fs) (Err (fault FieldCount k (length fs)))) gs h in
    inputs_many valued k 1 e fs gs (passed (eqb (length fs) (e + 1)) (inputs_in valued k 1 e fs) (fault FieldCount k (length fs)) gs word.2).1

module _ {V : Type 0} (valued : ℤ → Option V) (m : Meaning V) (law : Lawful m) (d : Drawing) (is : IsDiagram d) where
  -- a run between two ticks
  record Between (s : State V) : Type 0 where
    wide : length s.wires ≡ d.wires
    deep : length s.cells ≡ length d.blocks

  tell_ticks : (lines : List (List ℕ)) (s : State V) (k : ℕ) → Between s → Tells valued m d s.cells k lines (ticks_of valued m d s k lines).shown
  unfolding ticks_of
  tell_ticks [] s k b = tt
  tell_ticks (rest ∷ []) s k b = nothing (eqb (length rest) 0)
    where
      nothing : (e : Bool) → Tells valued m d s.cells k (rest ∷ []) (cond e ends (refused_by (fault FieldCount k 0))).shown
      nothing true = tt
      nothing false = tt
  tell_ticks (line ∷ next ∷ more) s k b = by_line (tick_line valued k d.inputs (fields_of line)) refl (λ s' b'. tell_ticks (next ∷ more) s' (k + 1) b')
    where
      by_tick : (gs : List (Option (Given V))) → tick_line valued k d.inputs (fields_of line) ≡ Ok gs → (a : Result Played Fault) → (played m d s gs Keep).answer ≡ a → ((s' : State V) → Between s' → Tells valued m d s'.cells (k + 1) (next ∷ more) (ticks_of valued m d s' (k + 1) (next ∷ more)).shown) → Tells valued m d s.cells k (line ∷ next ∷ more) (after_tick a (played m d s gs Keep).state.wires (ticks_of valued m d (played m d s gs Keep).state (k + 1) (next ∷ more))).shown
      by_tick gs ok (Err f) e on = tt
      by_tick gs ok (Ok p) e on =
          let left = played_left m law d is s gs b.wide b.deep (line_many valued k d.inputs (fields_of line) gs ok) p e in
          let s' = (played m d s gs Keep).state in
          (gs, s'.cells, ok, left.solves, on s' (record { wide = left.wide_still; deep = left.deep_still }))

      by_line : (r : Result (List (Option (Given V))) Fault) → tick_line valued k d.inputs (fields_of line) ≡ r → ((s' : State V) → Between s' → Tells valued m d s'.cells (k + 1) (next ∷ more) (ticks_of valued m d s' (k + 1) (next ∷ more)).shown) → Tells valued m d s.cells k (line ∷ next ∷ more) (after_tick (supplied_tick m d s r).answer (supplied_tick m d s r).state.wires (ticks_of valued m d (supplied_tick m d s r).state (k + 1) (next ∷ more))).shown
      by_line (Err f) e on = tt
      by_line (Ok gs) e on = by_tick gs e (played m d s gs Keep).answer refl on

  tell_made : (k : ℕ) (lines : List (List ℕ)) (r : Result (Unit {0}) Fault) → check_new m d (length (lent_wires {V = V} d)) (length (lent_cells {V = V} d)) ≡ r → Tells valued m d (starts m d.blocks) k lines (made valued m d k lines r).shown
  tell_made k lines (Err f) e = tt
  tell_made k lines (Ok u) e =
      let fresh : State V = made_from (Ok tt) m d 0 (lent_wires d) (lent_cells d) in
      let told = tell_ticks lines fresh k (record { wide = length-replicate d.wires Unknown; deep = length_starts m d.blocks }) in
      subst (λ r. Tells valued m d (starts m d.blocks) k lines (ticks_of valued m d (made_from r m d 0 (lent_wires d) (lent_cells d)) k lines).shown) (sym e) told

  tell_run : (k : ℕ) (lines : List (List ℕ)) → Tells valued m d (starts m d.blocks) k lines (run_of valued m d k lines).shown
  unfolding run_of
  tell_run k lines = tell_made k lines (check_new m d (length (lent_wires {V = V} d)) (length (lent_cells {V = V} d))) refl

-- the text of the diagram was accepted, so it is a diagram
drawn_is : (input : List ℕ) (n : ℕ) (d : Drawing) → drawn input n ≡ Ok d → IsDiagram d
drawn_is input n d h = ((reads_exactly (take n input)).only d (passed (leb (length input) most_bytes) (read_of (take n input)) (fault LongInput 0 0) d h).1).1

pub every_list_tells : {V : Type 0} (valued : ℤ → Option V) (m : Meaning V) → Lawful m → (input : List ℕ) → TellsLeast valued m input
unfolding TellsLeast listed
every_list_tells valued m law input d ok =
    subst (λ r. Tells valued m d (starts m d.blocks) (first_tick input) (tick_lines input) (opened valued m input r).shown) (sym ok)
    (tell_run valued m law d (drawn_is input (cut_at input) d ok) (first_tick input) (tick_lines input))
