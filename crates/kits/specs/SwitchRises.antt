-- Law one for each kind of the switch kit, and both laws of the kit.
use Rattle.std.specs.Prelude.{[], ◌∷◌, Bool, not, ℤ, refl}
use Rattle.kit.specs.declared.signal.Signal.{Signal}
use Rattle.kit.specs.declared.signal.Signal.TheVariants.{Unknown, Present}
use Rattle.kit.specs.Order.{◌⊑◌}
use Rattle.kit.specs.Meaning.{Rises, Monotone, Bounded}
use Rattle.kit.specs.Tables.{among, unknown}
use Rattle.kits.specs.Switch.{switch, switch_table, switch_fires, second_fires, switch_constant_fires, and_fires, or_fires, not_fires, is_yes, is_no, carry, carry_fires, parity_fires, odd, says}
use Rattle.kit.proofs.AtMost.{at_most_refl, rises_each}
use Rattle.kit.proofs.Bounds.{table_bounded}
use Rattle.kit.proofs.Deciding.{tried}
use Rattle.kit.proofs.Rising.{early_of_two, strict_of_one, strict_of_three, among_rises}

pub switch_constant_rises : (parameter : ℤ) → Rises (switch_constant_fires parameter)
switch_constant_rises parameter s t h = at_most_refl (Present (says parameter))

pub and_rises : Rises and_fires
and_rises = early_of_two is_no _ _ refl

pub or_rises : Rises or_fires
or_rises = early_of_two is_yes _ _ refl

pub not_rises : Rises not_fires
not_rises = strict_of_one not

from_a : (a b c : Signal Bool) → carry Unknown b c ⊑ carry a b c
from_a = tried (λ a b c. carry Unknown b c) carry refl

from_b : (a b c : Signal Bool) → carry a Unknown c ⊑ carry a b c
from_b = tried (λ a b c. carry a Unknown c) carry refl

from_c : (a b c : Signal Bool) → carry a b Unknown ⊑ carry a b c
from_c = tried (λ a b c. carry a b Unknown) carry refl

pub carry_rises : Rises carry_fires
carry_rises s t h =
    rises_each carry from_a from_b from_c s.a t.a s.b t.b s.c t.c h.a h.b h.c

pub parity_rises : Rises parity_fires
parity_rises = strict_of_three odd

pub switch_monotone : Monotone switch
switch_monotone kind parameter cell port =
    among_rises ((0, among (switch_fires parameter) unknown kind) ∷ (1, among second_fires unknown kind) ∷ []) (
      among_rises (switch_fires parameter) (switch_constant_rises parameter, (and_rises, (or_rises, (not_rises, (carry_rises, tt))))) kind,
      (among_rises second_fires (parity_rises, tt) kind, tt),
    ) port

pub switch_bounded : Bounded switch
switch_bounded = table_bounded switch_table refl
