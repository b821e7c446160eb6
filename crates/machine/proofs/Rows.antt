-- Tables of signals: the order wire by wire, and how many are known.
use Rattle.std.proofs.Common.{◌≡◌, ℕ, suc, ◌<◌, ◌≤◌, ◌≢◌, List, [], ◌∷◌, length, set, sym, refl, ap, ◌∙◌, subst, ⊎_elim, arith}
use Rattle.std.proofs.lemmas.List.{length-set, get_or-set_same, get_or-set_other, set-get_or, set_past, ext_get_or}
use Rattle.std.proofs.lemmas.Bool.{cases_lt, cases_eq}
use Rattle.kit.specs.declared.signal.Signal.{Signal}
use Rattle.kit.specs.declared.signal.Signal.TheVariants.{Unknown, Absent, Present}
use Rattle.kit.specs.Order.{◌⊑◌, ◌⊑ⁱ◌}
use Rattle.kit.proofs.AtMost.{at_most_refl, at_most_equal, at_most_trans, at_most_antisym}
use Rattle.draft.specs.declared.block.InPorts.{InPorts}
use Rattle.draft.specs.declared.block.InPorts.TheVariants.{Zero, One as OneIn, Two as TwoIn, Three}
use Rattle.machine.specs.Firing.{takes, put}
use Rattle.machine.specs.Tables.{at, weight, known, reads}

infix 4 ◌≼◌
-- each wire is at most its counterpart
abbrev pub ◌≼◌ : {V : Type 0} → List (Signal V) → List (Signal V) → Type 0
xs ≼ ys = (w : ℕ) → at xs w ⊑ at ys w

pub rows_refl : {V : Type 0} (xs : List (Signal V)) → xs ≼ xs
rows_refl xs w = at_most_refl (at xs w)

pub rows_trans : {V : Type 0} (xs ys zs : List (Signal V)) → xs ≼ ys → ys ≼ zs → xs ≼ zs
rows_trans xs ys zs h k w = at_most_trans (at xs w) (at ys w) (at zs w) (h w) (k w)

-- tables of one length, each at most the other, are the same
pub rows_antisym : {V : Type 0} (xs ys : List (Signal V)) → length xs ≡ length ys → xs ≼ ys → ys ≼ xs → xs ≡ ys
rows_antisym xs ys long h k = ext_get_or Unknown xs ys long (λ w l. at_most_antisym (at xs w) (at ys w) (h w) (k w))

weight_rises : {V : Type 0} (s t : Signal V) → s ⊑ t → weight s ≤ weight t
weight_rises Unknown t h = omega arith
weight_rises Absent t h = omega (arith, ap weight h)
weight_rises (Present v) t h = omega (arith, ap weight h)

same_weight : {V : Type 0} (s t : Signal V) → s ⊑ t → weight s ≡ weight t → s ≡ t
same_weight Unknown Unknown h e = refl
same_weight Unknown Absent h e = absurd (omega arith)
same_weight Unknown (Present v) h e = absurd (omega arith)
same_weight Absent t h e = h
same_weight (Present v) t h e = h

pub known_rises : {V : Type 0} (xs ys : List (Signal V)) → length xs ≡ length ys → xs ≼ ys → known xs ≤ known ys
known_rises [] ys long h = omega arith
known_rises (x ∷ xs) [] long h = absurd (omega arith)
known_rises (x ∷ xs) (y ∷ ys) long h = omega (arith, weight_rises x y (h 0), known_rises xs ys (omega arith) (λ w. h (suc w)))

-- no more was learned: nothing has changed
pub same_known : {V : Type 0} (xs ys : List (Signal V)) → length xs ≡ length ys → xs ≼ ys → known xs ≡ known ys → xs ≡ ys
same_known [] [] long h e = refl
same_known [] (y ∷ ys) long h e = absurd (omega arith)
same_known (x ∷ xs) [] long h e = absurd (omega arith)
same_known (x ∷ xs) (y ∷ ys) long h e =
    let first = weight_rises x y (h 0) in
    let rest = known_rises xs ys (omega arith) (λ w. h (suc w)) in
    λ i. same_weight x y (h 0) (omega arith) i ∷ same_known xs ys (omega arith) (λ w. h (suc w)) (omega arith) i

pub known_within : {V : Type 0} (xs : List (Signal V)) → known xs ≤ length xs
known_within [] = omega arith
known_within (Unknown ∷ xs) = omega (arith, known_within xs)
known_within (Absent ∷ xs) = omega (arith, known_within xs)
known_within (Present v ∷ xs) = omega (arith, known_within xs)

-- one wire takes a signal
pub takes_rises : {V : Type 0} (s t : Signal V) → s ⊑ takes s t
takes_rises Unknown t = tt
takes_rises Absent t = refl
takes_rises (Present v) t = refl

pub takes_below : {V : Type 0} (s t u : Signal V) → s ⊑ u → t ⊑ u → takes s t ⊑ u
takes_below Unknown t u h k = k
takes_below Absent t u h k = h
takes_below (Present v) t u h k = h

-- a wire that takes what it is already at most: it was that, or unknown
pub takes_same : {V : Type 0} (s t : Signal V) → s ⊑ t → takes s t ≡ s → s ≡ t
takes_same Unknown t h e = sym e
takes_same Absent t h e = h
takes_same (Present v) t h e = h

pub takes_itself : {V : Type 0} (s : Signal V) → takes s s ≡ s
takes_itself Unknown = refl
takes_itself Absent = refl
takes_itself (Present v) = refl

pub length_put : {V : Type 0} (ws : List (Signal V)) (w : ℕ) (s : Signal V) → length (put ws w s) ≡ length ws
length_put ws w s = length-set ws w (takes (at ws w) s)

pub at_put_same : {V : Type 0} (ws : List (Signal V)) (w : ℕ) (s : Signal V) → w < length ws → at (put ws w s) w ≡ takes (at ws w) s
at_put_same ws w s l = get_or-set_same ws w (takes (at ws w) s) Unknown l

pub at_put_other : {V : Type 0} (ws : List (Signal V)) (w v : ℕ) (s : Signal V) → v ≢ w → at (put ws w s) v ≡ at ws v
at_put_other ws w v s ne = get_or-set_other ws w v (takes (at ws w) s) Unknown ne

pub put_itself : {V : Type 0} (ws : List (Signal V)) (w : ℕ) (s : Signal V) → at ws w ≡ s → put ws w s ≡ ws
put_itself ws w s e = ap (λ t. set ws w (takes (at ws w) t)) (sym e) ∙ ap (set ws w) (takes_itself (at ws w)) ∙ set-get_or ws w Unknown

-- reading rises with the wires
pub reads_rise : {V : Type 0} (xs ys : List (Signal V)) (p : InPorts) → xs ≼ ys → reads xs p ⊑ⁱ reads ys p
reads_rise xs ys Zero h = record { a = refl; b = refl; c = refl }
reads_rise xs ys (OneIn a) h = record { a = h a; b = refl; c = refl }
reads_rise xs ys (TwoIn a b) h = record { a = h a; b = h b; c = refl }
reads_rise xs ys (Three a b c) h = record { a = h a; b = h b; c = h c }

-- taking a signal only raises a wire
pub put_rises : {V : Type 0} (ws : List (Signal V)) (w : ℕ) (s : Signal V) → ws ≼ put ws w s
put_rises ws w s v =
    ⊎_elim
    (λ e. ⊎_elim
    (λ l. at_most_trans (at ws v) (takes (at ws v) s) (at (put ws w s) v) (takes_rises (at ws v) s) (at_most_equal (takes (at ws v) s) (at (put ws w s) v) (ap (λ x. takes (at ws x) s) e ∙ sym (ap (at (put ws w s)) e ∙ at_put_same ws w s l))))
    (λ g. at_most_equal (at ws v) (at (put ws w s) v) (ap (λ xs. at xs v) (sym (set_past ws w (takes (at ws w) s) g))))
    (cases_lt w (length ws)))
    (λ ne. at_most_equal (at ws v) (at (put ws w s) v) (sym (at_put_other ws w v s ne)))
    (cases_eq v w)

-- and not above what it takes
pub put_below : {V : Type 0} (ws ts : List (Signal V)) (w : ℕ) (s : Signal V) → ws ≼ ts → s ⊑ at ts w → put ws w s ≼ ts
put_below ws ts w s h k v =
    ⊎_elim
    (λ e. ⊎_elim
    (λ l. subst (λ x. x ⊑ at ts v) (sym (ap (at (put ws w s)) e ∙ at_put_same ws w s l)) (takes_below (at ws w) s (at ts v) (subst (λ x. at ws x ⊑ at ts v) e (h v)) (subst (λ x. s ⊑ at ts x) (sym e) k)))
    (λ g. subst (λ xs. at xs v ⊑ at ts v) (sym (set_past ws w (takes (at ws w) s) g)) (h v))
    (cases_lt w (length ws)))
    (λ ne. subst (λ x. x ⊑ at ts v) (sym (at_put_other ws w v s ne)) (h v))
    (cases_eq v w)
