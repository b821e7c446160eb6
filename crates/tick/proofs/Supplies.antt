-- Supplying one input after the other.
use Rattle.std.proofs.Common.{◌≡◌, ℕ, ◌+◌, ◌<◌, ◌≤◌, List, [], ◌∷◌, length, get_or, drop, Some, None, Ok, Err, Option, Result, refl, ap, ◌∙◌}
use Rattle.std.proofs.lemmas.List.{at_drop_more, at_drop_all}
use Rattle.text.specs.declared.fault.Fault.{Fault}
use Rattle.draft.specs.Drawings.{Drawing}
use Rattle.machine.specs.declared.answers.Given.{Given}
use Rattle.machine.specs.Machine.{State, refused, accepted, supply}
use Rattle.machine.proofs.Ticks.{Alike, alike_supply}
use Rattle.tick.specs.Ticks.{supplied, unless}

module _ {V : Type 0} (d : Drawing) (s : State V) (w : ℕ) (gs : List (Option (Given V))) where
  pub all_supplied : length gs ≤ w → supplied d s w (drop w gs) ≡ accepted tt s
  unfolding supplied
  all_supplied l = at_drop_all (supplied d s w) gs w l

  pub none_next : w < length gs → get_or gs w None ≡ None → supplied d s w (drop w gs) ≡ supplied d s (w + 1) (drop (w + 1) gs)
  unfolding supplied
  none_next l is = at_drop_more (supplied d s w) gs w None l ∙ ap (λ y. supplied d s w (y ∷ drop (w + 1) gs)) is

  some_next : (g : Given V) → w < length gs → get_or gs w None ≡ Some g → supplied d s w (drop w gs) ≡ unless (supply d s w g) (supplied d (supply d s w g).state (w + 1) (drop (w + 1) gs)) (supply d s w g).answer
  unfolding supplied
  some_next g l is = at_drop_more (supplied d s w) gs w None l ∙ ap (λ y. supplied d s w (y ∷ drop (w + 1) gs)) is

  pub taken_next : (g : Given V) (u : Unit {0}) → w < length gs → get_or gs w None ≡ Some g → (supply d s w g).answer ≡ Ok u → supplied d s w (drop w gs) ≡ supplied d (supply d s w g).state (w + 1) (drop (w + 1) gs)
  taken_next g u l is ok = some_next g l is ∙ ap (unless (supply d s w g) (supplied d (supply d s w g).state (w + 1) (drop (w + 1) gs))) ok

  pub refused_next : (g : Given V) (f : Fault) → w < length gs → get_or gs w None ≡ Some g → (supply d s w g).answer ≡ Err f → supplied d s w (drop w gs) ≡ refused (supply d s w g).state f
  refused_next g f l is bad = some_next g l is ∙ ap (unless (supply d s w g) (supplied d (supply d s w g).state (w + 1) (drop (w + 1) gs))) bad

-- name, count and phase stay
pub alike_supplied : {V : Type 0} (d : Drawing) (s : State V) (w : ℕ) (gs : List (Option (Given V))) → Alike s (supplied d s w gs).state
unfolding supplied
alike_supplied d s w [] = record { phase = refl; name = refl; count = refl }
alike_supplied d s w (None ∷ gs) = alike_supplied d s (w + 1) gs
alike_supplied d s w (Some g ∷ gs) =
    go (alike_supply d s w g) (alike_supplied d (supply d s w g).state (w + 1) gs) (supply d s w g).answer
  where
    go : Alike s (supply d s w g).state → Alike (supply d s w g).state (supplied d (supply d s w g).state (w + 1) gs).state → (r : Result (Unit {0}) Fault) → Alike s (unless (supply d s w g) (supplied d (supply d s w g).state (w + 1) gs) r).state
    go once rest (Ok u) = record { phase = rest.phase ∙ once.phase; name = rest.name ∙ once.name; count = rest.count ∙ once.count }
    go once rest (Err f) = once
