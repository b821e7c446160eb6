-- What an accepted call found, and what it left.
use Rattle.std.proofs.Common.{◌≡◌, ℕ, ◌+◌, ◌<◌, Bool, true, false, cond, ◌&&◌, eqb, leb, ◌⊎◌, length, set, Ok, Result, sym, refl, inl, inr}
use Rattle.std.proofs.lemmas.Bool.{leb-false, eqb-true, eqb-false}
use Rattle.text.specs.declared.fault.Cause.TheVariants.{NoTickLeft, NumberOutside, WrongToken}
use Rattle.text.specs.declared.fault.Fault.{Fault}
use Rattle.text.specs.Results.{fault}
use Rattle.text.proofs.ResultLaws.{never_ok, same_ok}
use Rattle.kit.specs.declared.signal.Signal.{Signal}
use Rattle.kit.specs.declared.signal.Signal.TheVariants.{Unknown, Absent, Present}
use Rattle.kit.specs.Meaning.{Meaning}
use Rattle.draft.specs.Drawings.{Drawing}
use Rattle.machine.specs.declared.answers.Phase.{Phase}
use Rattle.machine.specs.declared.answers.Phase.TheVariants.{Resting, Open, Void}
use Rattle.machine.specs.declared.answers.Given.{Given}
use Rattle.machine.specs.declared.answers.Intent.TheVariants.{Keep}
use Rattle.machine.specs.declared.answers.Settled.{Settled}
use Rattle.machine.specs.declared.answers.Closed.{Closed}
use Rattle.machine.specs.declared.answers.Closed.TheVariants.{Kept, Undetermined}
use Rattle.machine.specs.Machine.{State, Token, Outcome, most_ticks, refused, accepted, begun, begin, begin_in, supply, supply_in, supply_known, with_wires, signal_of, settle, settle_in, close, close_in, closed_by, resting_with, lowest_unknown, next_cells}
use Rattle.machine.specs.Settling.{settled}
use Rattle.machine.specs.Tables.{at}

module _ {V : Type 0} where
  begun_only : (s : State V) (t : Token) (b : Bool) → (cond b (refused s (fault NoTickLeft 0 0)) (accepted (record { name = s.name; count = s.count + 1 }) (begun s))).answer ≡ Ok t → (cond {A = Outcome V (Result Token Fault)} b (refused s (fault NoTickLeft 0 0)) (accepted (record { name = s.name; count = s.count + 1 }) (begun s))).state ≡ begun s
  begun_only s t true h = never_ok h
  begun_only s t false h = refl

  begin_only : (s : State V) (t : Token) (p : Phase) → (begin_in p s).answer ≡ Ok t → (begin_in p s).state ≡ begun s
  begin_only s t Resting h = begun_only s t (leb most_ticks s.count) h
  begin_only s t Open h = never_ok h
  begin_only s t (Void f) h = never_ok h

  pub begun_so : (s : State V) (t : Token) → (begin s).answer ≡ Ok t → (begin s).state ≡ begun s
  unfolding begin
  begun_so s t h = begin_only s t s.phase h

  -- a supply found an unknown input wire
  pub record Supplied (d : Drawing) (s : State V) (w : ℕ) (g : Given V) (s' : State V) : Type 0 where
    pub below : w < d.inputs
    pub was : at s.wires w ≡ Unknown
    pub is : s' ≡ with_wires s (set s.wires w (signal_of g))

  module _ (d : Drawing) (s : State V) (w : ℕ) (g : Given V) (u : Unit {0}) where
    found : (was : Signal V) → at s.wires w ≡ was → w < d.inputs → (supply_known was s w g).answer ≡ Ok u → Supplied d s w g (supply_known was s w g).state
    found Unknown e l h = record { below = l; was = e; is = refl }
    found Absent e l h = never_ok h
    found (Present v) e l h = never_ok h

    inside : (b : Bool) → leb d.inputs w ≡ b → (cond b (refused s (fault NumberOutside w d.inputs)) (supply_known (at s.wires w) s w g)).answer ≡ Ok u → Supplied d s w g (cond {A = Outcome V (Result (Unit {0}) Fault)} b (refused s (fault NumberOutside w d.inputs)) (supply_known (at s.wires w) s w g)).state
    inside true e h = never_ok h
    inside false e h = found (at s.wires w) refl (leb-false d.inputs w e) h

    supply_only : (p : Phase) → (supply_in p d s w g).answer ≡ Ok u → Supplied d s w g (supply_in p d s w g).state
    supply_only Resting h = never_ok h
    supply_only Open h = inside (leb d.inputs w) refl h
    supply_only (Void f) h = never_ok h

    pub supplied_so : (supply d s w g).answer ≡ Ok u → Supplied d s w g (supply d s w g).state
    unfolding supply
    supplied_so h = supply_only s.phase h

  module _ (m : Meaning V) (d : Drawing) (s : State V) where
    settle_only : (n : Settled) (p : Phase) → (settle_in p m d s).answer ≡ Ok n → (settle_in p m d s).state ≡ with_wires s (settled m d s.cells s.wires).wires
    settle_only n Resting h = never_ok h
    settle_only n Open h = refl
    settle_only n (Void f) h = never_ok h

    pub settled_so : (n : Settled) → (settle m d s).answer ≡ Ok n → (settle m d s).state ≡ with_wires s (settled m d s.cells s.wires).wires
    unfolding settle
    settled_so n h = settle_only n s.phase h

    -- a close with keep
    pub record Moves (c : Closed) (s' : State V) : Type 0 where
      pub kept : c ≡ Kept
      pub all : lowest_unknown s.wires ≡ length s.wires
      pub is : s' ≡ resting_with s (next_cells m s.wires d.blocks s.cells)

    pub record Stays (c : Closed) (s' : State V) : Type 0 where
      pub told : c ≡ Undetermined (lowest_unknown s.wires)
      pub some : lowest_unknown s.wires ≡ length s.wires → ⊥
      pub is : s' ≡ resting_with s s.cells

    abbrev keeps_if : Bool → Outcome V (Result Closed Fault)
    keeps_if b = cond b (accepted Kept (resting_with s (next_cells m s.wires d.blocks s.cells))) (accepted (Undetermined (lowest_unknown s.wires)) (resting_with s s.cells))

    keep_only : (c : Closed) (b : Bool) → eqb (lowest_unknown s.wires) (length s.wires) ≡ b → (keeps_if b).answer ≡ Ok c → Moves c (keeps_if b).state ⊎ Stays c (keeps_if b).state
    keep_only c true e h = inl (record { kept = sym (same_ok h); all = eqb-true (lowest_unknown s.wires) (length s.wires) e; is = refl })
    keep_only c false e h = inr (record { told = sym (same_ok h); some = eqb-false (lowest_unknown s.wires) (length s.wires) e; is = refl })

    token_only : (c : Closed) (b : Bool) → (cond b (closed_by Keep m d s) (refused s (fault WrongToken 0 0))).answer ≡ Ok c → Moves c (cond b (closed_by Keep m d s) (refused s (fault WrongToken 0 0))).state ⊎ Stays c (cond b (closed_by Keep m d s) (refused s (fault WrongToken 0 0))).state
    token_only c true h = keep_only c (eqb (lowest_unknown s.wires) (length s.wires)) refl h
    token_only c false h = never_ok h

    close_only : (t : Token) (c : Closed) (p : Phase) → (close_in p m d s t Keep).answer ≡ Ok c → Moves c (close_in p m d s t Keep).state ⊎ Stays c (close_in p m d s t Keep).state
    close_only t c Resting h = never_ok h
    close_only t c Open h = token_only c (eqb t.name s.name && eqb t.count s.count) h
    close_only t c (Void f) h = never_ok h

    pub closed_so : (t : Token) (c : Closed) → (close m d s t Keep).answer ≡ Ok c → Moves c (close m d s t Keep).state ⊎ Stays c (close m d s t Keep).state
    unfolding close
    closed_so t c h = close_only t c s.phase h
