-- A tick line, field by field.
use Rattle.std.proofs.Common.{◌≡◌, ℕ, suc, ◌+◌, Bool, true, false, cond, eqb, List, [], ◌∷◌, ◌++◌, length, ℤ, Ok, Err, codes, Option, Result, sym, refl, ap, ◌∙◌}
use Rattle.std.proofs.lemmas.List.{append_assoc, append-nil}
use Rattle.std.proofs.lemmas.Bool.{eqb-true}
use Rattle.text.specs.declared.fault.Cause.TheVariants.{FieldCount}
use Rattle.text.specs.declared.fault.Fault.{Fault}
use Rattle.text.specs.Pieces.{field}
use Rattle.text.specs.Results.{then, mapped, placed, fault}
use Rattle.text.specs.Walk.{word_in}
use Rattle.text.proofs.ResultLaws.{passed}
use Rattle.machine.specs.declared.answers.Given.{Given}
use Rattle.marks.specs.Marks.{input_in}
use Rattle.bench.specs.TickLines.{inputs_in, tick_line}

-- these, then what is read
abbrev pub ahead : {A : Type 0} → List A → Result (List A) Fault → Result (List A) Fault
ahead gs r = mapped (λ hs. gs ++ hs) r

pub none_ahead : {A : Type 0} (r : Result (List A) Fault) → ahead [] r ≡ r
none_ahead (Ok gs) = refl
none_ahead (Err f) = refl

ahead_more : {A : Type 0} (gs : List A) (g : A) (r : Result (List A) Fault) → ahead gs (mapped (λ hs. g ∷ hs) r) ≡ ahead (gs ++ g ∷ []) r
ahead_more gs g (Ok hs) = ap Ok (sym (append_assoc gs (g ∷ []) hs))
ahead_more gs g (Err f) = refl

module _ {V : Type 0} (valued : ℤ → Option V) (k : ℕ) (fs : List (List ℕ)) where
  pub none_left : (j : ℕ) (gs : List (Option (Given V))) → ahead gs (inputs_in valued k j 0 fs) ≡ Ok gs
  unfolding inputs_in
  none_left j gs = ap Ok (append-nil gs)

  next_in : (j n : ℕ) → inputs_in valued k j (suc n) fs ≡ then (placed k (j + 1) (input_in valued (field fs j))) (λ g. mapped (λ gs. g ∷ gs) (inputs_in valued k (j + 1) n fs))
  unfolding inputs_in
  next_in j n = refl

  pub one_more : (j n : ℕ) (gs : List (Option (Given V))) (g : Option (Given V)) → placed k (j + 1) (input_in valued (field fs j)) ≡ Ok g → ahead gs (inputs_in valued k j (suc n) fs) ≡ ahead (gs ++ g ∷ []) (inputs_in valued k (j + 1) n fs)
  one_more j n gs g ok = ap (ahead gs) (next_in j n ∙ ap (λ r. then r (λ x. mapped (λ hs. x ∷ hs) (inputs_in valued k (j + 1) n fs))) ok) ∙ ahead_more gs g (inputs_in valued k (j + 1) n fs)

  pub one_refused : (j n : ℕ) (gs : List (Option (Given V))) (f : Fault) → placed k (j + 1) (input_in valued (field fs j)) ≡ Err f → ahead gs (inputs_in valued k j (suc n) fs) ≡ Err f
  one_refused j n gs f bad = ap (ahead gs) (next_in j n ∙ ap (λ r. then r (λ x. mapped (λ hs. x ∷ hs) (inputs_in valued k (j + 1) n fs))) bad)

  module _ (e : ℕ) where
    -- whether the line has a field for its word and for each input
    abbrev pub enough : Result (Unit {0}) Fault
    enough = cond (eqb (length fs) (e + 1)) (Ok tt) (Err (fault FieldCount k (length fs)))

    abbrev counted : Result (List (Option (Given V))) Fault
    counted = cond (eqb (length fs) (e + 1)) (inputs_in valued k 1 e fs) (Err (fault FieldCount k (length fs)))

    begins : tick_line valued k e fs ≡ then (placed k 1 (word_in (codes "tick") (field fs 0))) (λ _. counted)
    unfolding tick_line
    begins = refl

    pub other_word : (f : Fault) → placed k 1 (word_in (codes "tick") (field fs 0)) ≡ Err f → tick_line valued k e fs ≡ Err f
    other_word f bad = begins ∙ ap (λ r. then r (λ _. counted)) bad

    first_counted : (b : Bool) (r : Result (List (Option (Given V))) Fault) (f : Fault) → cond b r (Err f) ≡ then {A = Unit {0}} (cond b (Ok tt) (Err f)) (λ _. r)
    first_counted true r f = refl
    first_counted false r f = refl

    pub after_word : (u : Unit {0}) → placed k 1 (word_in (codes "tick") (field fs 0)) ≡ Ok u → tick_line valued k e fs ≡ then enough (λ _. inputs_in valued k 1 e fs)
    after_word u ok = begins ∙ ap (λ r. then r (λ _. counted)) ok ∙ first_counted (eqb (length fs) (e + 1)) (inputs_in valued k 1 e fs) (fault FieldCount k (length fs))

    pub right_count : (u : Unit {0}) → enough ≡ Ok u → length fs ≡ e + 1
    right_count u ok = eqb-true (length fs) (e + 1) (passed (eqb (length fs) (e + 1)) (Ok tt) (fault FieldCount k (length fs)) u ok).0
