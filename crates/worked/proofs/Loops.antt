-- The two loops are diagrams, and settle as told.
use Rattle.std.proofs.Common.{◌≡◌, ℕ, zero, suc, ◌≤◌, true, cond, eqb, [], ◌∷◌, refl, ap, arith}
use Rattle.std.proofs.lemmas.Bool.{ne_eqb}
use Rattle.draft.specs.Limits.{last_kind}
use Rattle.diagram.specs.Reading.{IsDiagram}
use Rattle.diagram.specs.Wiring.{ReadsBelow, DrivenOnce, drivers}
use Rattle.kit.specs.declared.signal.Signal.TheVariants.{Unknown, Present}
use Rattle.machine.specs.Machine.{check_new, lengths_fit, begin, supply, settle}
use Rattle.machine.specs.Settling.{rounds}
use Rattle.worked.specs.EightCases.{loop_of, Loop, or_kind, and_kind}

-- a wire that is another than x is not counted there
other : (x w : ℕ) → (x ≡ w → ⊥) → cond {A = ℕ} (eqb x w) 1 0 ≡ 0
other x w h = ap {B = ℕ} (λ t. cond t 1 0) (ne_eqb x w h)

reads_below : (kind : ℕ) → ReadsBelow (loop_of kind)
reads_below kind w l = omega (arith, other 0 w (λ e. omega (arith, e, l)), other 1 w (λ e. omega (arith, e, l)))

undriven : (kind w : ℕ) → (1 ≡ w → ⊥) → drivers w (loop_of kind).blocks ≡ 0
undriven kind w h = omega (arith, other 1 w h)

driven_once : (kind : ℕ) → DrivenOnce (loop_of kind)
driven_once kind zero l m = absurd (omega (arith, l))
driven_once kind (suc zero) l m = refl
driven_once kind (suc (suc w)) l m = absurd (omega (arith, m))

is_drawn : (kind : ℕ) → kind ≤ last_kind → IsDiagram (loop_of kind)
is_drawn kind l =
    record {
      drawable = record {
        few_inputs = omega arith;
        inputs_among = omega arith;
        few_wires = omega arith;
        few_blocks = omega arith;
        legible = (record { known_range = l; signed_range = omega arith; ins = (omega arith, omega arith); outs = omega arith }, tt);
      };
      wired = record { reads_below = reads_below kind; drives_within = ((λ w l. undriven kind w (λ e. omega (arith, e, l))), (λ w l. undriven kind w (λ e. omega (arith, e, l)))); driven_once = driven_once kind };
    }

pub or_loop : Loop or_kind (record { rounds = 2; firings = 2; known = 1; unknown = 0 }) (Present true ∷ Present true ∷ [])
unfolding check_new lengths_fit begin supply settle rounds
or_loop = record { drawn = is_drawn or_kind (omega arith); taken = refl; answer = refl; wires = refl }

pub and_loop : Loop and_kind (record { rounds = 1; firings = 1; known = 0; unknown = 1 }) (Present true ∷ Unknown ∷ [])
unfolding check_new lengths_fit begin supply settle rounds
and_loop = record { drawn = is_drawn and_kind (omega arith); taken = refl; answer = refl; wires = refl }
