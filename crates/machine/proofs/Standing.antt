-- Every log stands.
use Rattle.std.proofs.Common.{◌≡◌, ℕ, suc, ◌-◌, ◌<◌, ◌≤◌, List, [], ◌∷◌, ◌++◌, length, take, replicate, Ok, Result, sym, refl, ap, ◌∙◌, subst, ⊎_elim, arith}
use Rattle.std.proofs.lemmas.List.{length-replicate, length-append, length-take-le, get_or-take, get_or_append_left, get_or-append_right, get_or_past}
use Rattle.std.proofs.lemmas.Bool.{false≢true, cases_lt}
use Rattle.text.specs.declared.fault.Fault.{Fault}
use Rattle.kit.specs.declared.signal.Signal.{Signal}
use Rattle.kit.specs.declared.signal.Signal.TheVariants.{Unknown}
use Rattle.kit.specs.Cells.{Cell}
use Rattle.kit.specs.Meaning.{Meaning, Lawful}
use Rattle.draft.specs.declared.block.Block.{Block}
use Rattle.draft.specs.Drawings.{Drawing}
use Rattle.diagram.specs.Reading.{IsDiagram}
use Rattle.machine.specs.Logs.{Entry, Led, nothing_yet, begin_next, supply_next, fire_next, settle_next, read_next, close_next, Stands, replay_new, EveryLogStands}
use Rattle.machine.specs.Machine.{State, check_new, made_from, new_state, starts, begin, supply, fire, settle, read, close}
use Rattle.kit.specs.Order.{◌⊑◌}
use Rattle.machine.specs.Solutions.{OneLeastSolution}
use Rattle.machine.specs.Tables.{at, answer, block_at, cell_at}
use Rattle.machine.proofs.Holding.{HoldsOn, below_solution, none_supplied, blank_at, each_driven}
use Rattle.machine.proofs.Keeping.{Keeps, one_least, rest_not_void, begin_keeps, supply_keeps, fire_keeps, settle_keeps, read_keeps, close_keeps}
use Rattle.machine.proofs.Rows.{rows_antisym}

pub length_starts : {V : Type 0} (m : Meaning V) (bs : List Block) → length (starts m bs) ≡ length bs
length_starts m [] = refl
length_starts m (b ∷ bs) = ap suc (length_starts m bs)

new_keeps : {V : Type 0} (m : Meaning V) (d : Drawing) (name : ℕ) (wires : List (Signal V)) (cells : List (Cell V)) (r : Result (Unit {0}) Fault) → r ≡ Ok tt → Keeps m d [] (made_from r m d name wires cells)
new_keeps m d name wires cells r e =
    subst (λ x. Keeps m d [] (made_from x m d name wires cells)) (sym e)
    (record {
      replay = replay_new m d;
      replays = refl;
      no_other = λ q h. h;
      holds = none_supplied m d (starts m d.blocks);
      inputs_long = length-replicate d.inputs Unknown;
      cells = refl;
      cells_long = length_starts m d.blocks;
      in_tick = λ o. refl;
      alive = rest_not_void;
      solved = λ h. absurd (false≢true h);
      counted = tt;
    })

module _ {V : Type 0} (m : Meaning V) (law : Lawful m) (d : Drawing) (is : IsDiagram d) (new : State V) (first : Keeps m d [] new) where
  pub keeps : (log : List (Entry V)) (s : State V) → Led m d new log s → Keeps m d log s
  unfolding begin supply fire settle read close
  keeps _ _ nothing_yet = first
  keeps _ _ (begin_next {log} {s} led) = begin_keeps m law d is log s s.phase refl (keeps log s led)
  keeps _ _ (supply_next {log} {s} led w g) = supply_keeps m law d is log s w g s.phase refl (keeps log s led)
  keeps _ _ (fire_next {log} {s} led k) = fire_keeps m law d is log s k s.phase refl (keeps log s led)
  keeps _ _ (settle_next {log} {s} led) = settle_keeps m law d is log s s.phase refl (keeps log s led)
  keeps _ _ (read_next {log} {s} led w) = read_keeps m law d is log s w s.phase refl (keeps log s led)
  keeps _ _ (close_next {log} {s} led t i) = close_keeps m law d is log s t i s.phase refl (keeps log s led)

-- what is kept says what stands
pub stands_if : {V : Type 0} (m : Meaning V) (law : Lawful m) (d : Drawing) (is : IsDiagram d) (log : List (Entry V)) (s : State V) → Keeps m d log s → Stands m d log s
stands_if m law d is log s k =
    let r = k.replay in
    let one = one_least m law d is r.tick_cells r.inputs s.wires k.holds in
    let below = below_solution m law d is r.tick_cells r.inputs s.wires one.wires k.holds one.is.solves in
    record {
      replay = r;
      replays = k.replays;
      no_other = k.no_other;
      least = one;
      wires = below;
      settled = λ h. rows_antisym s.wires one.wires (k.holds.long ∙ sym one.is.solves.long) below (one.is.least s.wires (k.solved h));
      counted = k.counted;
      cells = k.cells;
    }

pub every_log_stands : {V : Type 0} → EveryLogStands V
every_log_stands m law d is name wires cells fits log s led =
    stands_if m law d is log s (keeps m law d is (new_state m d name wires cells) (new_keeps m d name wires cells (check_new m d (length wires) (length cells)) fits) log s led)

-- For any inputs: the wires before anything is fired are what is supplied, and nothing else.
module _ {V : Type 0} (m : Meaning V) (law : Lawful m) (d : Drawing) (is : IsDiagram d) (cells : List (Cell V)) (inputs : List (Signal V)) where
  abbrev front : List (Signal V)
  front = take d.inputs (inputs ++ replicate d.inputs Unknown)

  abbrev given_only : List (Signal V)
  given_only = front ++ replicate (d.wires - d.inputs) Unknown

  front_long : length front ≡ d.inputs
  front_long = let ws : List (Signal V) = replicate d.inputs Unknown in let long : length ws ≡ d.inputs = length-replicate d.inputs Unknown in length-take-le d.inputs (inputs ++ ws) (omega (arith, length-append inputs ws))

  at_input : (w : ℕ) → w < d.inputs → at given_only w ≡ at inputs w
  at_input w l =
      get_or_append_left front (replicate (d.wires - d.inputs) Unknown) Unknown w (omega (arith, front_long)) ∙ get_or-take d.inputs (inputs ++ replicate d.inputs Unknown) w Unknown l
      ∙ ⊎_elim (λ in_it. get_or_append_left inputs (replicate d.inputs Unknown) Unknown w in_it)
      (λ past. get_or-append_right inputs (replicate d.inputs Unknown) (length inputs) w Unknown refl past ∙ blank_at d.inputs (w - length inputs) ∙ sym (get_or_past inputs w Unknown past))
      (cases_lt w (length inputs))

  at_driven : (w : ℕ) → d.inputs ≤ w → at given_only w ≡ Unknown
  at_driven w l = get_or-append_right front (replicate (d.wires - d.inputs) Unknown) d.inputs w Unknown front_long l ∙ blank_at (d.wires - d.inputs) (w - d.inputs)

  given_holds : HoldsOn m d cells inputs given_only
  given_holds =
      record {
        long = length-append front (replicate (d.wires - d.inputs) Unknown) ∙ omega (arith, front_long, blank_long (d.wires - d.inputs), is.drawable.inputs_among);
        supplied = at_input;
        supported = λ k l. each_driven d is k l (λ w port from. subst (λ s. s ⊑ answer m given_only (block_at d k) (cell_at cells k) port) (sym (at_driven w from)) tt);
        below = λ t a w. ⊎_elim (λ low. subst (λ s. s ⊑ at t w) (sym (at_input w low)) (a.supplied w low)) (λ from. subst (λ s. s ⊑ at t w) (sym (at_driven w from)) tt) (cases_lt w d.inputs);
      }
    where
      blank_long : (n : ℕ) → length {A = Signal V} (replicate n Unknown) ≡ n
      blank_long n = length-replicate n Unknown

pub one_least_solution : {V : Type 0} → OneLeastSolution V
one_least_solution m law d is cells inputs = one_least m law d is cells inputs (given_only m law d is cells inputs) (given_holds m law d is cells inputs)
