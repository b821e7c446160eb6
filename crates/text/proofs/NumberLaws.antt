-- A field is read as a number exactly when it is the number's own text.
use Rattle.std.proofs.Common.{◌≡◌, ℕ, zero, suc, ◌-◌, ◌^◌, ◌<◌, ◌≤◌, true, cond, eqb, ltb, leb, List, [], ◌∷◌, length, get_or, drop, ℤ, pos, negsuc, neg_ℤ, Ok, Err, decimal, Result, sym, ap, ◌∙◌, subst, ⊎_elim, arith}
use lib.Signed.{mag}
use Rattle.std.specs.Str.Parse.{digits_value}
use Rattle.std.specs.Fmt.{signed_decimal}
use Rattle.std.specs.Str.{all_ascii_digits}
use Rattle.std.proofs.lemmas.Fmt.{decimal-digits_value, digits_decimal, digits_value-decimal, decimal_nonempty, first_decimal, decimal_digit}
use Rattle.std.proofs.lemmas.Str.Parse.{IsNumeralModel, numerals_by_value, tells_all_ascii_digits}
use Rattle.std.proofs.lemmas.Bool.{and_parts, and_from, or_cases, leb-true, le-leb, eqb-true, eq-eqb, ne_eqb, ltb-true, lt-ltb, not-true, eqb-false, cond-true, cond-false, cases_Bool, or_left, or_right, not_from_false, cases_eq}
use Rattle.text.specs.declared.fault.Cause.{Cause}
use Rattle.text.specs.declared.fault.Cause.TheVariants.{Form, Range}
use Rattle.text.specs.Numerals.{well_formed, number_in, negative_in, integer_in, ExactNumber, ExactInteger}
use Rattle.text.specs.Results.{mapped}
use Rattle.text.proofs.ResultLaws.{same_ok, mapped_ok, passed, missed}

own : IsNumeralModel (λ ds. all_ascii_digits ds ≡ true) (digits_value 10)
own = numerals_by_value (λ ds. all_ascii_digits ds ≡ true) tells_all_ascii_digits

pub decimal_digits : (n : ℕ) → n < 2 ^ 64 → all_ascii_digits (decimal n) ≡ true
decimal_digits n h = digits_decimal own n h

-- `well_formed`, part by part
record Formed (ds : List ℕ) : Type 0 where
  some : 0 < length ds
  plain : get_or ds 0 0 ≡ 48 → length ds ≡ 1
  digits : all_ascii_digits ds ≡ true

formed : (ds : List ℕ) → well_formed ds ≡ true → Formed ds
formed ds e =
    let outer = and_parts _ (all_ascii_digits ds) e in
    let inner = and_parts (ltb 0 (length ds)) _ outer.0 in
    record {
      some = ltb-true 0 (length ds) inner.0;
      plain = λ z. ⊎_elim (λ n. absurd (eqb-false (get_or ds 0 0) 48 (not-true _ n) z)) (eqb-true (length ds) 1) (or_cases _ _ inner.1);
      digits = outer.1;
    }

well : (ds : List ℕ) → Formed ds → well_formed ds ≡ true
well ds f =
    and_from _ _
    (and_from _ _ (lt-ltb 0 (length ds) f.some)
    (⊎_elim (λ z. or_right _ _ (eq-eqb (length ds) 1 (f.plain z))) (λ n. or_left _ _ (not_from_false _ (ne_eqb (get_or ds 0 0) 48 n))) (cases_eq (get_or ds 0 0) 48)))
    f.digits

decimal_formed : (v : ℕ) → v < 2 ^ 64 → Formed (decimal v)
decimal_formed v h =
    record {
      some = decimal_nonempty v h;
      plain = λ z. ⊎_elim (λ e. ap (λ n. length (decimal n)) e ∙ ap length (decimal_digit 0 (omega arith))) (λ n. absurd (omega (arith, first_decimal v (omega (arith, n)) h, z))) (cases_eq v 0);
      digits = digits_decimal own v h;
    }

pub number_only : (most : ℕ) (f : List ℕ) (v : ℕ) → most < 2 ^ 64 → number_in most f ≡ Ok v → (f ≡ decimal v) × (v ≤ most)
unfolding number_in
number_only most f v small h =
    let form = passed (well_formed f) _ Form v h in
    let range = passed (leb (digits_value 10 f) most) _ Range v form.1 in
    let v_is : digits_value 10 f ≡ v = same_ok range.1 in
    let le = leb-true (digits_value 10 f) most range.0 in
    let p = formed f form.0 in
    (sym (decimal-digits_value own f p.digits p.some p.plain (omega arith)) ∙ ap decimal v_is, omega arith)

pub number_all : (most v : ℕ) → most < 2 ^ 64 → v ≤ most → number_in most (decimal v) ≡ Ok v
unfolding number_in
number_all most v small le =
    let h : v < 2 ^ 64 = omega arith in
    let v_is = digits_value-decimal own v h in
    cond-true _ _ _ (well (decimal v) (decimal_formed v h))
    ∙ ap (λ n. cond (leb n most) (Ok n) (Err Range)) v_is
    ∙ cond-true (leb v most) (Ok v) (Err Range) (le-leb v most le)

pub exact_number : (most : ℕ) (f : List ℕ) (r : Result ℕ Cause) → most < 2 ^ 64 → r ≡ number_in most f → ExactNumber most f r
exact_number most f r small e =
    record {
      only = λ v is. number_only most f v small (sym e ∙ is);
      all = λ v text le. e ∙ ap (number_in most) text ∙ number_all most v small le;
    }

-- what follows the minus sign, and the whole field, by their first byte
minus_first : (f : List ℕ) → get_or f 0 0 ≡ 45 → f ≡ 45 ∷ drop 1 f
minus_first [] h = absurd (omega arith)
minus_first (x ∷ f) h = ap (λ y. y ∷ f) h

negative_only : (ds : List ℕ) (z : ℤ) → negative_in ds ≡ Ok z → (45 ∷ ds ≡ signed_decimal z) × (mag z < 2 ^ 31)
negative_only ds z h =
    let first = missed (eqb (get_or ds 0 0) 48) _ Form z h in
    let m = mapped_ok (λ n. neg_ℤ (pos n)) (number_in (2 ^ 31) ds) z first.1 in
    let n = number_only (2 ^ 31) ds m.0 (omega arith) m.1 in
    signed_from m.0 ds z n.0 n.1 m.2 (eqb-false (get_or ds 0 0) 48 first.0)
  where
    signed_from : (n : ℕ) (ds : List ℕ) (z : ℤ) → ds ≡ decimal n → n ≤ 2 ^ 31 → neg_ℤ (pos n) ≡ z → (get_or ds 0 0 ≡ 48 → ⊥) → (45 ∷ ds ≡ signed_decimal z) × (mag z < 2 ^ 31)
    signed_from zero ds z text le is no_zero = absurd (no_zero (ap (λ xs. get_or xs 0 0) (text ∙ decimal_digit 0 (omega arith))))
    signed_from (suc n) ds z text le is no_zero = (ap (λ xs. 45 ∷ xs) text ∙ ap signed_decimal is, subst (λ y. mag y < 2 ^ 31) is (omega arith))

pub integer_only : (f : List ℕ) (z : ℤ) → integer_in f ≡ Ok z → (f ≡ signed_decimal z) × (mag z < 2 ^ 31)
unfolding integer_in
integer_only f z =
    ⊎_elim
    (λ minus e.
    let n = negative_only (drop 1 f) z (sym (cond-true (eqb (get_or f 0 0) 45) (negative_in (drop 1 f)) (mapped pos (number_in (2 ^ 31 - 1) f)) minus) ∙ e) in
    (minus_first f (eqb-true (get_or f 0 0) 45 minus) ∙ n.0, n.1))
    (λ plain e.
    let m = mapped_ok pos (number_in (2 ^ 31 - 1) f) z (sym (cond-false (eqb (get_or f 0 0) 45) (negative_in (drop 1 f)) (mapped pos (number_in (2 ^ 31 - 1) f)) plain) ∙ e) in
    let n = number_only (2 ^ 31 - 1) f m.0 (omega arith) m.1 in
    (n.0 ∙ ap signed_decimal m.2, subst (λ y. mag y < 2 ^ 31) m.2 (omega (arith, n.1))))
    (cases_Bool (eqb (get_or f 0 0) 45))

digit_first : (n : ℕ) → n < 2 ^ 64 → 48 ≤ get_or (decimal n) 0 0
digit_first n h = ⊎_elim (λ e. omega (arith, ap (λ k. get_or (decimal k) 0 0) e ∙ ap (λ xs. get_or xs 0 0) (decimal_digit 0 (omega arith)))) (λ ne. omega (arith, first_decimal n (omega (arith, ne)) h)) (cases_eq n 0)

pub integer_all : (z : ℤ) → mag z < 2 ^ 31 → integer_in (signed_decimal z) ≡ Ok z
unfolding integer_in
integer_all (pos n) small =
    let h : n < 2 ^ 64 = omega arith in
    cond-false _ _ _ (ne_eqb (get_or (decimal n) 0 0) 45 (λ e. absurd (omega (arith, digit_first n h)))) ∙ ap (mapped pos) (number_all (2 ^ 31 - 1) n (omega arith) (omega arith))
integer_all (negsuc n) small =
    let h : suc n < 2 ^ 64 = omega arith in
    cond-false _ _ _ (ne_eqb (get_or (decimal (suc n)) 0 0) 48 (λ e. absurd (omega (arith, first_decimal (suc n) (omega arith) h)))) ∙ ap (mapped (λ k. neg_ℤ (pos k))) (number_all (2 ^ 31) (suc n) (omega arith) (omega arith))

pub exact_integer : (f : List ℕ) (r : Result ℤ Cause) → r ≡ integer_in f → ExactInteger f r
exact_integer f r e =
    record {
      only = λ z is. integer_only f z (sym e ∙ is);
      all = λ z text small. e ∙ ap integer_in text ∙ integer_all z small;
    }
