-- A tick's token, from begin to close.
use Rattle.std.proofs.Common.{◌≡◌, ℕ, ◌+◌, ◌-◌, Bool, true, false, cond, ◌&&◌, eqb, leb, List, length, set, is_ok, Ok, Result, sym, refl, ap, ◌∙◌}
use Rattle.std.proofs.lemmas.Bool.{cond-true, and_from, eq-eqb}
use Rattle.text.specs.declared.fault.Cause.TheVariants.{NoTickLeft, NumberOutside, WrongToken}
use Rattle.text.specs.declared.fault.Fault.{Fault}
use Rattle.text.specs.Results.{fault}
use Rattle.text.proofs.ResultLaws.{never_ok, same_ok}
use Rattle.kit.specs.declared.signal.Signal.{Signal}
use Rattle.kit.specs.declared.signal.Signal.TheVariants.{Unknown, Absent, Present}
use Rattle.kit.specs.Meaning.{Meaning}
use Rattle.draft.specs.Drawings.{Drawing}
use Rattle.machine.specs.declared.answers.Phase.{Phase}
use Rattle.machine.specs.declared.answers.Phase.TheVariants.{Resting, Open, Void}
use Rattle.machine.specs.declared.answers.Given.{Given}
use Rattle.machine.specs.declared.answers.Intent.{Intent}
use Rattle.machine.specs.declared.answers.Intent.TheVariants.{Keep, Drop}
use Rattle.machine.specs.declared.answers.Closed.TheVariants.{Kept, Undetermined}
use Rattle.machine.specs.Firing.{after_fire}
use Rattle.machine.specs.Machine.{State, Token, Outcome, most_ticks, refused, accepted, begun, begin, begin_in, supply, supply_in, supply_known, with_wires, fire, fire_in, settle, settle_in, close, close_in, closed_by, signal_of, lowest_unknown, next_cells, resting_with}
use Rattle.machine.specs.Settling.{settled}
use Rattle.machine.specs.Tables.{at, block_at, cell_at, known}

-- it is the token of the tick that is open
pub record Own {V : Type 0} (s : State V) (t : Token) : Type 0 where
  pub opened : s.phase ≡ Open
  pub name : t.name ≡ s.name
  pub count : t.count ≡ s.count

module _ {V : Type 0} where
  -- begin hands it out
  abbrev begun_unless : Bool → State V → Outcome V (Result Token Fault)
  begun_unless b s = cond b (refused s (fault NoTickLeft 0 0)) (accepted (record { name = s.name; count = s.count + 1 }) (begun s))

  of_begun : (s : State V) (t : Token) (b : Bool) → (begun_unless b s).answer ≡ Ok t → Own (begun_unless b s).state t
  of_begun s t true h = never_ok h
  of_begun s t false h = let same = same_ok h in record { opened = refl; name = sym (ap (λ x. x.name) same); count = sym (ap (λ x. x.count) same) }

  own_in : (s : State V) (t : Token) (p : Phase) → (begin_in p s).answer ≡ Ok t → Own (begin_in p s).state t
  own_in s t Resting h = of_begun s t (leb most_ticks s.count) h
  own_in s t Open h = never_ok h
  own_in s t (Void f) h = never_ok h

  pub own_begin : (s : State V) (t : Token) → (begin s).answer ≡ Ok t → Own (begin s).state t
  unfolding begin
  own_begin s t h = own_in s t s.phase h

  -- the calls of a tick leave name, count and phase
  pub record Alike (s s' : State V) : Type 0 where
    pub phase : s'.phase ≡ s.phase
    pub name : s'.name ≡ s.name
    pub count : s'.count ≡ s.count

  pub still_own : {s s' : State V} (t : Token) → Own s t → Alike s s' → Own s' t
  still_own t own a = record { opened = a.phase ∙ own.opened; name = own.name ∙ sym a.name; count = own.count ∙ sym a.count }

  itself : (s : State V) → Alike s s
  itself s = record { phase = refl; name = refl; count = refl }

  other_wires : (s : State V) (wires : List (Signal V)) → Alike s (with_wires s wires)
  other_wires s wires = record { phase = refl; name = refl; count = refl }

  either_way : {A : Type 0} (s : State V) (b : Bool) (x y : Outcome V A) → Alike s x.state → Alike s y.state → Alike s (cond b x y).state
  either_way s true x y p q = p
  either_way s false x y p q = q

  module _ (d : Drawing) (s : State V) where
    known_or_not : (w : ℕ) (g : Given V) (was : Signal V) → Alike s (supply_known was s w g).state
    known_or_not w g Unknown = other_wires s (set s.wires w (signal_of g))
    known_or_not w g Absent = itself s
    known_or_not w g (Present v) = itself s

    supply_alike : (w : ℕ) (g : Given V) (p : Phase) → Alike s (supply_in p d s w g).state
    supply_alike w g Resting = itself s
    supply_alike w g Open = either_way s (leb d.inputs w) (refused s (fault NumberOutside w d.inputs)) (supply_known (at s.wires w) s w g) (itself s) (known_or_not w g (at s.wires w))
    supply_alike w g (Void f) = itself s

    pub alike_supply : (w : ℕ) (g : Given V) → Alike s (supply d s w g).state
    unfolding supply
    alike_supply w g = supply_alike w g s.phase

    module _ (m : Meaning V) where
      settle_alike : (p : Phase) → Alike s (settle_in p m d s).state
      settle_alike Resting = itself s
      settle_alike Open = other_wires s (settled m d s.cells s.wires).wires
      settle_alike (Void f) = itself s

      pub alike_settle : Alike s (settle m d s).state
      unfolding settle
      alike_settle = settle_alike s.phase

      fire_alike : (k : ℕ) (p : Phase) → Alike s (fire_in p m d s k).state
      fire_alike k Resting = itself s
      fire_alike k Open =
          let after = after_fire m s.wires (block_at d k) (cell_at s.cells k) in
          either_way s (leb (length d.blocks) k) (refused s (fault NumberOutside k (length d.blocks))) (accepted (known after - known s.wires) (with_wires s after)) (itself s) (other_wires s after)
      fire_alike k (Void f) = itself s

      pub alike_fire : (k : ℕ) → Alike s (fire m d s k).state
      unfolding fire
      alike_fire k = fire_alike k s.phase

      -- and close takes it
      own_token : (t : Token) → Own s t → (eqb t.name s.name && eqb t.count s.count) ≡ true
      own_token t own = and_from (eqb t.name s.name) (eqb t.count s.count) (eq-eqb t.name s.name own.name) (eq-eqb t.count s.count own.count)

      pub own_close : (t : Token) (i : Intent) → Own s t → close m d s t i ≡ closed_by i m d s
      unfolding close
      own_close t i own = ap (λ p. close_in p m d s t i) own.opened ∙ cond-true (eqb t.name s.name && eqb t.count s.count) (closed_by i m d s) (refused s (fault WrongToken 0 0)) (own_token t own)

      -- so neither settle nor close is refused
      pub settle_taken : (t : Token) → Own s t → is_ok (settle m d s).answer ≡ true
      unfolding settle
      settle_taken t own = ap (λ p. is_ok (settle_in p m d s).answer) own.opened

      each_accepted : {A : Type 0} (b : Bool) (x y : A) (r q : State V) → is_ok (cond b (accepted x r) (accepted y q)).answer ≡ true
      each_accepted true x y r q = refl
      each_accepted false x y r q = refl

      closed_taken : (i : Intent) → is_ok (closed_by i m d s).answer ≡ true
      closed_taken Keep =
          let low = lowest_unknown s.wires in
          each_accepted (eqb low (length s.wires)) Kept (Undetermined low) (resting_with s (next_cells m s.wires d.blocks s.cells)) (resting_with s s.cells)
      closed_taken Drop = refl

      pub close_taken : (t : Token) (i : Intent) → Own s t → is_ok (close m d s t i).answer ≡ true
      close_taken t i own = ap (λ o. is_ok o.answer) (own_close t i own) ∙ closed_taken i
