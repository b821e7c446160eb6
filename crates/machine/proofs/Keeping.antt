-- What a log keeps, call by call.
use Rattle.std.proofs.Common.{◌≡◌, ℕ, zero, suc, ◌+◌, ◌-◌, ◌<◌, true, ◌&&◌, eqb, leb, List, [], ◌∷◌, length, get_or, set, replicate, Ok, Err, Result, sym, refl, ap, ◌∙◌, subst, arith, None}
use Rattle.std.proofs.lemmas.List.{ext_get_or, length-set, length-replicate}
use Rattle.std.proofs.lemmas.Bool.{eqb-true, leb-false, false≢true, cond_both}
use Rattle.text.specs.declared.fault.Cause.TheVariants.{NoTickOpen, TickOpen, NoTickLeft, NumberOutside, AlreadyKnown, WrongToken}
use Rattle.text.specs.declared.fault.Fault.{Fault}
use Rattle.text.specs.Results.{fault}
use Rattle.kit.specs.declared.signal.Signal.{Signal}
use Rattle.kit.specs.declared.signal.Signal.TheVariants.{Unknown, Absent, Present}
use Rattle.kit.specs.Cells.{Cell}
use Rattle.kit.specs.Meaning.{Meaning, Lawful}
use Rattle.kit.proofs.AtMost.{at_most_known}
use Rattle.draft.specs.declared.block.Block.{Block}
use Rattle.draft.specs.Drawings.{Drawing, blank}
use Rattle.diagram.specs.Reading.{IsDiagram}
use Rattle.machine.specs.declared.answers.Phase.{Phase}
use Rattle.machine.specs.declared.answers.Phase.TheVariants.{Resting, Open, Void}
use Rattle.machine.specs.declared.answers.Given.{Given}
use Rattle.machine.specs.declared.answers.Intent.{Intent}
use Rattle.machine.specs.declared.answers.Intent.TheVariants.{Keep, Drop}
use Rattle.machine.specs.declared.answers.Closed.{Closed}
use Rattle.machine.specs.declared.answers.Closed.TheVariants.{Kept, Undetermined, Dropped}
use Rattle.machine.specs.Firing.{after_fire}
use Rattle.machine.specs.Logs.{Entry, begins, supplies, fires, settles, reads, closes, Replay, Replays, ReplaysEntry, Moved, settled_last, Counted}
use Rattle.machine.specs.Machine.{State, Token, Outcome, refused, accepted, most_ticks, begun, begin_in, with_wires, signal_of, supply_known, supply_in, fire_in, settle_in, read_in, next_cells, lowest_unknown, resting_with, closed_by, close_in}
use Rattle.machine.specs.Settling.{settled, settle_answer}
use Rattle.machine.specs.Solutions.{Solution, Least, OneLeast}
use Rattle.machine.specs.Tables.{at, cell_at, block_at, known, next_cell}
use Rattle.machine.proofs.Holding.{HoldsOn, below_solution, least_if, fire_holds, solved_fire, none_supplied, supply_holds}
use Rattle.machine.proofs.Rows.{◌≼◌, rows_antisym}
use Rattle.machine.proofs.Settles.{Settles, settles_all}

module _ {V : Type 0} (m : Meaning V) (law : Lawful m) (d : Drawing) (is : IsDiagram d) where
  -- wires that hold on lead to the one least solution
  pub one_least : (cells : List (Cell V)) (inputs wires : List (Signal V)) → HoldsOn m d cells inputs wires → OneLeast m d cells inputs
  one_least cells inputs wires h =
      let s = settles_all m law d is cells inputs wires h in
      let l = least_if m law d is cells inputs _ s.holds s.solves in
      record {
        wires = (settled m d cells wires).wires;
        is = l;
        only = λ t lt. rows_antisym t _ (lt.solves.long ∙ sym l.solves.long) (lt.least _ l.solves) (l.least t lt.solves);
      }

pub record Keeps {V : Type 0} (m : Meaning V) (d : Drawing) (log : List (Entry V)) (s : State V) : Type 0 where
  pub replay : Replay V
  pub replays : Replays m d log replay
  pub no_other : (r : Replay V) → Replays m d log r → r ≡ replay
  pub holds : HoldsOn m d replay.tick_cells replay.inputs s.wires
  pub inputs_long : length replay.inputs ≡ d.inputs
  pub cells : s.cells ≡ replay.cells
  pub cells_long : length s.cells ≡ length d.blocks
  -- in an open tick no cell has moved
  pub in_tick : s.phase ≡ Open → replay.tick_cells ≡ replay.cells
  pub alive : (f : Fault) → s.phase ≡ Void f → ⊥
  pub solved : settled_last log ≡ true → Solution m d replay.tick_cells replay.inputs s.wires
  pub counted : Counted d log

resting_not_open : ◌≡◌ {A = Phase} Resting Open → ⊥
resting_not_open e = let z : ◌≡◌ {A = ℕ} 0 1 = cc in absurd (omega arith)

pub rest_not_void : (f : Fault) → ◌≡◌ {A = Phase} Resting (Void f) → ⊥
rest_not_void f e = let z : ◌≡◌ {A = ℕ} 0 1 = cc in absurd (omega arith)

open_not_void : (f : Fault) → ◌≡◌ {A = Phase} Open (Void f) → ⊥
open_not_void f e = let z : ◌≡◌ {A = ℕ} 0 1 = cc in absurd (omega arith)

-- no wire is unknown
pub none_unknown : {V : Type 0} (ws : List (Signal V)) → lowest_unknown ws ≡ length ws → (w : ℕ) → w < length ws → at ws w ≡ Unknown → ⊥
none_unknown [] e w l u = absurd (omega arith)
none_unknown (Unknown ∷ ws) e w l u = absurd (omega arith)
none_unknown (Absent ∷ ws) e zero l u = let z : ◌≡◌ {A = ℕ} 0 1 = cc in absurd (omega arith)
none_unknown (Absent ∷ ws) e (suc w) l u = none_unknown ws (omega arith) w (omega arith) u
none_unknown (Present v ∷ ws) e zero l u = let z : ◌≡◌ {A = ℕ} 0 1 = cc in absurd (omega arith)
none_unknown (Present v ∷ ws) e (suc w) l u = none_unknown ws (omega arith) w (omega arith) u

all_known : {V : Type 0} (ws ts : List (Signal V)) → lowest_unknown ws ≡ length ws → length ws ≡ length ts → ws ≼ ts → ws ≡ ts
all_known ws ts full long h = ext_get_or Unknown ws ts long (λ w l. at_most_known (at ws w) (at ts w) (h w) (none_unknown ws full w l))

-- the cells move block by block
pub length_next : {V : Type 0} (m : Meaning V) (ws : List (Signal V)) (bs : List Block) (cs : List (Cell V)) → length cs ≡ length bs → length (next_cells m ws bs cs) ≡ length cs
length_next m ws [] cs e = refl
length_next m ws (b ∷ bs) [] e = refl
length_next m ws (b ∷ bs) (c ∷ cs) e = ap suc (length_next m ws bs cs (omega arith))

pub next_at : {V : Type 0} (m : Meaning V) (ws : List (Signal V)) (bs : List Block) (cs : List (Cell V)) → length cs ≡ length bs → (k : ℕ) → k < length bs → cell_at (next_cells m ws bs cs) k ≡ next_cell m ws (get_or bs k blank) (cell_at cs k)
next_at m ws [] cs e k l = absurd (omega arith)
next_at m ws (b ∷ bs) [] e k l = absurd (omega arith)
next_at m ws (b ∷ bs) (c ∷ cs) e zero l = refl
next_at m ws (b ∷ bs) (c ∷ cs) e (suc k) l = next_at m ws bs cs (omega arith) k (omega arith)

module _ {V : Type 0} (m : Meaning V) (law : Lawful m) (d : Drawing) (is : IsDiagram d) (log : List (Entry V)) where
  -- an entry that changes nothing in the replay, and the state after it
  record Plain (e : Entry V) : Type 0 where
    back : (r r' : Replay V) → ReplaysEntry m d e r r' → r' ≡ r
    stay : (r : Replay V) → ReplaysEntry m d e r r
    count : Counted d log → Counted d (e ∷ log)

  -- the state may have other wires, and another phase
  plain : (e : Entry V) (s s' : State V) → Plain e → (k : Keeps m d log s) → HoldsOn m d k.replay.tick_cells k.replay.inputs s'.wires → s'.cells ≡ s.cells → (s'.phase ≡ Open → s.phase ≡ Open) → ((f : Fault) → s'.phase ≡ Void f → ⊥) → (settled_last (e ∷ log) ≡ true → Solution m d k.replay.tick_cells k.replay.inputs s'.wires) → Keeps m d (e ∷ log) s'
  plain e s s' p k holds same phase alive solved =
      record {
        replay = k.replay;
        replays = (k.replay, k.replays, p.stay k.replay);
        no_other = λ r h. p.back h.0 r h.2 ∙ k.no_other h.0 h.1;
        holds = holds;
        inputs_long = k.inputs_long;
        cells = same ∙ k.cells;
        cells_long = ap length same ∙ k.cells_long;
        in_tick = λ o. k.in_tick (phase o);
        alive = alive;
        solved = solved;
        counted = p.count k.counted;
      }

  -- a refused call, or one that only looks
  still : (e : Entry V) (s : State V) → Plain e → settled_last (e ∷ log) ≡ settled_last log → Keeps m d log s → Keeps m d (e ∷ log) s
  still e s p last k = plain e s s p k k.holds refl (λ o. o) k.alive (λ h. k.solved (sym last ∙ h))

  pub begin_keeps : (s : State V) (p : Phase) → s.phase ≡ p → Keeps m d log s → Keeps m d (begins (begin_in p s).answer ∷ log) (begin_in p s).state
  begin_keeps s Resting e k =
      cond_both (leb most_ticks s.count) (refused s (fault NoTickLeft 0 0)) (accepted (record { name = s.name; count = s.count + 1 }) (begun s))
      (λ (o : Outcome V (Result Token Fault)). Keeps m d (begins o.answer ∷ log) o.state)
      (λ _. still (begins (Err (fault NoTickLeft 0 0))) s (record { back = λ r r' h. h; stay = λ r. refl; count = λ c. c }) refl k)
      (λ _.
      record {
        replay = record { cells = k.replay.cells; tick_cells = k.replay.cells; inputs = replicate d.inputs Unknown };
        replays = (k.replay, k.replays, refl);
        no_other = λ r h. h.2 ∙ ap (λ (q : Replay V). record { cells = q.cells; tick_cells = q.cells; inputs = replicate d.inputs Unknown }) (k.no_other h.0 h.1);
        holds = subst (λ n. HoldsOn m d k.replay.cells (replicate d.inputs Unknown) (replicate n Unknown)) (sym k.holds.long) (none_supplied m d k.replay.cells);
        inputs_long = length-replicate d.inputs Unknown;
        cells = k.cells;
        cells_long = k.cells_long;
        in_tick = λ o. refl;
        alive = open_not_void;
        solved = λ h. absurd (false≢true h);
        counted = k.counted;
      })
  begin_keeps s Open e k = still (begins (Err (fault TickOpen 0 0))) s (record { back = λ r r' h. h; stay = λ r. refl; count = λ c. c }) refl k
  begin_keeps s (Void f) e k = absurd (k.alive f e)

  no_supply : (s : State V) (w : ℕ) (g : Given V) (f : Fault) → Keeps m d log s → Keeps m d (supplies w g (Err f) ∷ log) s
  no_supply s w g f k = still (supplies w g (Err f)) s (record { back = λ r r' h. h; stay = λ r. refl; count = λ c. c }) refl k

  -- the wire as it was decides
  supply_known_keeps : (s : State V) (w : ℕ) (g : Given V) (was : Signal V) → s.phase ≡ Open → w < d.inputs → at s.wires w ≡ was → Keeps m d log s → Keeps m d (supplies w g (supply_known was s w g).answer ∷ log) (supply_known was s w g).state
  supply_known_keeps s w g Unknown o low was k =
      record {
        replay = record { cells = k.replay.cells; tick_cells = k.replay.tick_cells; inputs = set k.replay.inputs w (signal_of g) };
        replays = (k.replay, k.replays, refl);
        no_other = λ r h. h.2 ∙ ap (λ (q : Replay V). record { cells = q.cells; tick_cells = q.tick_cells; inputs = set q.inputs w (signal_of g) }) (k.no_other h.0 h.1);
        holds = supply_holds m law d is k.replay.tick_cells k.replay.inputs s.wires w (signal_of g) k.inputs_long low was k.holds;
        inputs_long = length-set k.replay.inputs w (signal_of g) ∙ k.inputs_long;
        cells = k.cells;
        cells_long = k.cells_long;
        in_tick = k.in_tick;
        alive = k.alive;
        solved = λ h. absurd (false≢true h);
        counted = k.counted;
      }
  supply_known_keeps s w g Absent o low was k = no_supply s w g (fault AlreadyKnown w 0) k
  supply_known_keeps s w g (Present v) o low was k = no_supply s w g (fault AlreadyKnown w 0) k

  pub supply_keeps : (s : State V) (w : ℕ) (g : Given V) (p : Phase) → s.phase ≡ p → Keeps m d log s → Keeps m d (supplies w g (supply_in p d s w g).answer ∷ log) (supply_in p d s w g).state
  supply_keeps s w g Resting e k = no_supply s w g (fault NoTickOpen 0 0) k
  supply_keeps s w g Open e k =
      cond_both (leb d.inputs w) (refused s (fault NumberOutside w d.inputs)) (supply_known (at s.wires w) s w g)
      (λ (o : Outcome V (Result (Unit {0}) Fault)). Keeps m d (supplies w g o.answer ∷ log) o.state)
      (λ _. no_supply s w g (fault NumberOutside w d.inputs) k)
      (λ low. supply_known_keeps s w g (at s.wires w) e (leb-false d.inputs w low) refl k)
  supply_keeps s w g (Void f) e k = absurd (k.alive f e)

  no_fire : (s : State V) (j : ℕ) (f : Fault) → Keeps m d log s → Keeps m d (fires j (Err f) ∷ log) s
  no_fire s j f k = still (fires j (Err f)) s (record { back = λ r r' h. h; stay = λ r. refl; count = λ c. c }) refl k

  -- in an open tick the run's cells are the replay's tick cells
  tick_cells : (s : State V) (k : Keeps m d log s) → s.phase ≡ Open → k.replay.tick_cells ≡ s.cells
  tick_cells s k o = k.in_tick o ∙ sym k.cells

  pub fire_keeps : (s : State V) (j : ℕ) (p : Phase) → s.phase ≡ p → Keeps m d log s → Keeps m d (fires j (fire_in p m d s j).answer ∷ log) (fire_in p m d s j).state
  fire_keeps s j Resting e k = no_fire s j (fault NoTickOpen 0 0) k
  fire_keeps s j Open e k =
      let after = after_fire m s.wires (block_at d j) (cell_at s.cells j) in
      let t = k.replay.tick_cells in
      let i = k.replay.inputs in
      let same = tick_cells s k e in
      cond_both (leb (length d.blocks) j) (refused s (fault NumberOutside j (length d.blocks))) (accepted (known after - known s.wires) (with_wires s after))
      (λ (o : Outcome V (Result ℕ Fault)). Keeps m d (fires j o.answer ∷ log) o.state)
      (λ _. no_fire s j (fault NumberOutside j (length d.blocks)) k)
      (λ low.
      let l = leb-false (length d.blocks) j low in
      let fired : after_fire m s.wires (block_at d j) (cell_at t j) ≡ after = ap (λ cs. after_fire m s.wires (block_at d j) (cell_at cs j)) same in
      plain (fires j (Ok (known after - known s.wires))) s (with_wires s after) (record { back = λ r r' h. h; stay = λ r. refl; count = λ c. c }) k
      (subst (HoldsOn m d t i) fired (fire_holds m law d is t i s.wires j l k.holds))
      refl (λ o. o) k.alive
      (λ h. subst (Solution m d t i) (sym (sym fired ∙ solved_fire m law d is t i s.wires j l (k.solved h))) (k.solved h)))
  fire_keeps s j (Void f) e k = absurd (k.alive f e)

  pub settle_keeps : (s : State V) (p : Phase) → s.phase ≡ p → Keeps m d log s → Keeps m d (settles (settle_in p m d s).answer ∷ log) (settle_in p m d s).state
  settle_keeps s Resting e k = still (settles (Err (fault NoTickOpen 0 0))) s (record { back = λ r r' h. h; stay = λ r. refl; count = λ c. c }) refl k
  settle_keeps s Open e k =
      let t = k.replay.tick_cells in
      let i = k.replay.inputs in
      let after = subst (λ cs. Settles m d t i s.wires (settled m d cs s.wires)) (tick_cells s k e) (settles_all m law d is t i s.wires k.holds) in
      plain (settles (Ok (settle_answer m d s.cells s.wires))) s (with_wires s (settled m d s.cells s.wires).wires)
      (record { back = λ r r' h. h; stay = λ r. refl; count = λ c. (refl, after.few, c) }) k
      after.holds refl (λ o. o) k.alive (λ h. after.solves)
  settle_keeps s (Void f) e k = absurd (k.alive f e)

  looked : (s : State V) (w : ℕ) (a : Result (Signal V) Fault) → Keeps m d log s → Keeps m d (reads w a ∷ log) s
  looked s w a k = still (reads w a) s (record { back = λ r r' h. h; stay = λ r. refl; count = λ c. c }) refl k

  read_open : (s : State V) (w : ℕ) → Keeps m d log s → Keeps m d (reads w (read_in Open d s w).answer ∷ log) (read_in Open d s w).state
  read_open s w k =
      cond_both (leb d.wires w) (refused s (fault NumberOutside w d.wires)) (accepted (at s.wires w) s)
      (λ (o : Outcome V (Result (Signal V) Fault)). Keeps m d (reads w o.answer ∷ log) o.state)
      (λ _. looked s w _ k) (λ _. looked s w _ k)

  pub read_keeps : (s : State V) (w : ℕ) (p : Phase) → s.phase ≡ p → Keeps m d log s → Keeps m d (reads w (read_in p d s w).answer ∷ log) (read_in p d s w).state
  read_keeps s w Resting e k = read_open s w k
  read_keeps s w Open e k = read_open s w k
  read_keeps s w (Void f) e k = absurd (k.alive f e)

  -- there is one way to move
  same_moves : (ws : List (Signal V)) (cs xs ys : List (Cell V)) → length cs ≡ length d.blocks → Moved m d ws cs xs → Moved m d ws cs ys → xs ≡ ys
  same_moves ws cs xs ys long x y = ext_get_or None xs ys (x.as_many ∙ sym y.as_many) (λ k l. x.each k (omega (arith, x.as_many)) ∙ sym (y.each k (omega (arith, x.as_many))))

  no_close : (s : State V) (t : Token) (i : Intent) → Keeps m d log s → Keeps m d (closes t i (Err (fault WrongToken 0 0)) ∷ log) s
  no_close s t i k = still (closes t i (Err (fault WrongToken 0 0))) s (record { back = λ r r' h. h; stay = λ r. refl; count = λ c. c }) refl k

  -- a tick that ends without moving a cell
  unmoved : (s : State V) (e : Entry V) → Plain e → settled_last (e ∷ log) ≡ settled_last log → Keeps m d log s → Keeps m d (e ∷ log) (resting_with s s.cells)
  unmoved s e p last k = plain e s (resting_with s s.cells) p k k.holds refl (λ o. absurd (resting_not_open o)) rest_not_void (λ h. k.solved (sym last ∙ h))

  -- a kept tick: every wire is known, so the wires are the least solution, and the cells move on it
  kept : (s : State V) (t : Token) → lowest_unknown s.wires ≡ length s.wires → Keeps m d log s → Keeps m d (closes t Keep (Ok Kept) ∷ log) (resting_with s (next_cells m s.wires d.blocks s.cells))
  kept s t full k =
      let r = k.replay in
      let cells' = next_cells m s.wires d.blocks s.cells in
      let moved : (wires : List (Signal V)) → Least m d r.tick_cells r.inputs wires → Moved m d wires r.cells cells' = λ wires l.
      let same : s.wires ≡ wires = all_known s.wires wires full (k.holds.long ∙ sym l.solves.long) (below_solution m law d is r.tick_cells r.inputs s.wires wires k.holds l.solves) in
      subst (λ ws. Moved m d ws r.cells cells') same (subst (λ cs. Moved m d s.wires cs (next_cells m s.wires d.blocks s.cells)) k.cells (record { as_many = length_next m s.wires d.blocks s.cells k.cells_long; each = next_at m s.wires d.blocks s.cells k.cells_long }))
      in
      let least = one_least m law d is r.tick_cells r.inputs s.wires k.holds in
      let here = moved least.wires least.is in
      record {
        replay = record { cells = cells'; tick_cells = r.tick_cells; inputs = r.inputs };
        replays = (r, k.replays, (refl, refl, moved));
        no_other = λ q h.
            let b = k.no_other h.0 h.1 in
            let there = h.2.2 least.wires (subst (λ (x : Replay V). Least m d x.tick_cells x.inputs least.wires) (sym b) least.is) in
            let as_here : Moved m d least.wires r.cells q.cells = subst (λ (x : Replay V). Moved m d least.wires x.cells q.cells) b there in
            λ i. record { cells = same_moves least.wires r.cells q.cells cells' (ap length (sym k.cells) ∙ k.cells_long) as_here here i; tick_cells = (h.2.0 ∙ ap (λ (x : Replay V). x.tick_cells) b) i; inputs = (h.2.1 ∙ ap (λ (x : Replay V). x.inputs) b) i };
        holds = k.holds;
        inputs_long = k.inputs_long;
        cells = refl;
        cells_long = length_next m s.wires d.blocks s.cells k.cells_long ∙ k.cells_long;
        in_tick = λ o. absurd (resting_not_open o);
        alive = rest_not_void;
        solved = k.solved;
        counted = k.counted;
      }

  closed_keeps : (s : State V) (t : Token) (i : Intent) → Keeps m d log s → Keeps m d (closes t i (closed_by i m d s).answer ∷ log) (closed_by i m d s).state
  closed_keeps s t Keep k =
      cond_both (eqb (lowest_unknown s.wires) (length s.wires))
      (accepted Kept (resting_with s (next_cells m s.wires d.blocks s.cells))) (accepted (Undetermined (lowest_unknown s.wires)) (resting_with s s.cells))
      (λ (o : Outcome V (Result Closed Fault)). Keeps m d (closes t Keep o.answer ∷ log) o.state)
      (λ full. kept s t (eqb-true (lowest_unknown s.wires) (length s.wires) full) k)
      (λ _. unmoved s (closes t Keep (Ok (Undetermined (lowest_unknown s.wires)))) (record { back = λ r r' h. h; stay = λ r. refl; count = λ c. c }) refl k)
  closed_keeps s t Drop k = unmoved s (closes t Drop (Ok Dropped)) (record { back = λ r r' h. h; stay = λ r. refl; count = λ c. c }) refl k

  pub close_keeps : (s : State V) (t : Token) (i : Intent) (p : Phase) → s.phase ≡ p → Keeps m d log s → Keeps m d (closes t i (close_in p m d s t i).answer ∷ log) (close_in p m d s t i).state
  close_keeps s t i Resting e k = no_close s t i k
  close_keeps s t i Open e k =
      cond_both (eqb t.name s.name && eqb t.count s.count) (closed_by i m d s) (refused s (fault WrongToken 0 0))
      (λ (o : Outcome V (Result Closed Fault)). Keeps m d (closes t i o.answer ∷ log) o.state)
      (λ _. closed_keeps s t i k) (λ _. no_close s t i k)
  close_keeps s t i (Void f) e k = no_close s t i k
