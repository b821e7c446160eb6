-- Tables of the right lengths.
use Rattle.std.proofs.Common.{◌≡◌, ℕ, true, false, cond, eqb, length, Ok, Err, sym, refl, ◌∙◌, ⊎_elim}
use Rattle.std.proofs.lemmas.Bool.{cond-true, cond-false, cases_eq, eq-eqb, ne_eqb}
use Rattle.text.specs.declared.fault.Cause.TheVariants.{TableLength}
use Rattle.text.specs.Results.{then, fault}
use Rattle.text.proofs.ResultLaws.{never_ok, then_ok}
use Rattle.kit.specs.Meaning.{Meaning}
use Rattle.draft.specs.Drawings.{Drawing}
use Rattle.machine.specs.Machine.{lengths_fit, check_new, kinds_fit}

module _ (d : Drawing) (wires cells : ℕ) where
  pub wires_differ : (wires ≡ d.wires → ⊥) → lengths_fit d wires cells ≡ Err (fault TableLength d.wires wires)
  unfolding lengths_fit
  wires_differ ne = cond-false (eqb wires d.wires) _ (Err (fault TableLength d.wires wires)) (ne_eqb wires d.wires ne)

  wires_agree : wires ≡ d.wires → lengths_fit d wires cells ≡ cond (eqb cells (length d.blocks)) (Ok tt) (Err (fault TableLength (length d.blocks) cells))
  unfolding lengths_fit
  wires_agree e = cond-true (eqb wires d.wires) _ (Err (fault TableLength d.wires wires)) (eq-eqb wires d.wires e)

  pub cells_differ : wires ≡ d.wires → (cells ≡ length d.blocks → ⊥) → lengths_fit d wires cells ≡ Err (fault TableLength (length d.blocks) cells)
  cells_differ e ne = wires_agree e ∙ cond-false (eqb cells (length d.blocks)) (Ok tt) (Err (fault TableLength (length d.blocks) cells)) (ne_eqb cells (length d.blocks) ne)

  pub both_agree : wires ≡ d.wires → cells ≡ length d.blocks → lengths_fit d wires cells ≡ Ok tt
  both_agree e f = wires_agree e ∙ cond-true (eqb cells (length d.blocks)) (Ok tt) (Err (fault TableLength (length d.blocks) cells)) (eq-eqb cells (length d.blocks) f)

  -- what is not refused has the right lengths
  pub wires_right : (u : Unit {0}) → lengths_fit d wires cells ≡ Ok u → wires ≡ d.wires
  wires_right u h = ⊎_elim (λ e. e) (λ ne. never_ok (sym (wires_differ ne) ∙ h)) (cases_eq wires d.wires)

  pub cells_right : (u : Unit {0}) → lengths_fit d wires cells ≡ Ok u → cells ≡ length d.blocks
  cells_right u h = ⊎_elim (λ e. e) (λ ne. never_ok (sym (cells_differ (wires_right u h) ne) ∙ h)) (cases_eq cells (length d.blocks))

  -- what new takes has them too
  module _ {V : Type 0} (m : Meaning V) where
    pub checked_so : check_new m d wires cells ≡ then (lengths_fit d wires cells) (λ _. kinds_fit m 0 d.blocks)
    unfolding check_new lengths_fit
    checked_so =
        let kinds = kinds_fit m 0 d.blocks in
        let few = fault TableLength (length d.blocks) cells in
        let short = fault TableLength d.wires wires in
        elim (eqb wires d.wires) as (λ t. cond t (cond (eqb cells (length d.blocks)) kinds (Err few)) (Err short) ≡ then (cond t (cond (eqb cells (length d.blocks)) (Ok (tt {0})) (Err few)) (Err short)) (λ _. kinds)) [
          | true ↦ elim (eqb cells (length d.blocks)) as (λ t. cond t kinds (Err few) ≡ then (cond t (Ok (tt {0})) (Err few)) (λ _. kinds)) [ true ↦ refl | false ↦ refl ]
          | false ↦ refl
        ]

    pub lengths_taken : (u : Unit {0}) → check_new m d wires cells ≡ Ok u → lengths_fit d wires cells ≡ Ok tt
    lengths_taken u h = (then_ok (lengths_fit d wires cells) (λ _. kinds_fit m 0 d.blocks) u (sym checked_so ∙ h)).1
