-- What a reading that was accepted went through.
use Rattle.std.proofs.Common.{◌≡◌, ℕ, Bool, true, false, cond, Ok, Err, Result, refl, ap}
use Rattle.text.specs.declared.fault.Cause.{Cause}
use Rattle.text.specs.Results.{then, mapped, placed}

pub never_ok : {A E P : Type 0} {e : E} {x : A} → Err e ≡ Ok x → P
never_ok h = absurd cc

pub same_ok : {A E : Type 0} {x y : A} → ◌≡◌ {A = Result A E} (Ok x) (Ok y) → x ≡ y
same_ok h = cc

pub same_err : {A E : Type 0} {x y : E} → ◌≡◌ {A = Result A E} (Err x) (Err y) → x ≡ y
same_err h = cc

pub then_ok : {A B E : Type 0} (r : Result A E) (f : A → Result B E) (y : B) → then r f ≡ Ok y → (x : A) × (r ≡ Ok x) × (f x ≡ Ok y)
then_ok (Ok x) f y h = (x, refl, h)
then_ok (Err e) f y h = never_ok h

pub mapped_ok : {A B E : Type 0} (g : A → B) (r : Result A E) (y : B) → mapped g r ≡ Ok y → (x : A) × (r ≡ Ok x) × (g x ≡ y)
mapped_ok g (Ok x) y h = (x, refl, same_ok h)
mapped_ok g (Err e) y h = never_ok h

pub placed_ok : {A : Type 0} (m n : ℕ) (r : Result A Cause) (x : A) → placed m n r ≡ Ok x → r ≡ Ok x
placed_ok m n (Ok y) x h = ap Ok (same_ok h)
placed_ok m n (Err c) x h = never_ok h

-- a test that refuses was passed
pub passed : {A E : Type 0} (t : Bool) (r : Result A E) (e : E) (x : A) → cond t r (Err e) ≡ Ok x → (t ≡ true) × (r ≡ Ok x)
passed true r e x h = (refl, h)
passed false r e x h = never_ok h

-- a test that refuses was not met
pub missed : {A E : Type 0} (t : Bool) (r : Result A E) (e : E) (x : A) → cond t (Err e) r ≡ Ok x → (t ≡ false) × (r ≡ Ok x)
missed true r e x h = never_ok h
missed false r e x h = (refl, h)

pub then_then : {A B C E : Type 0} (r : Result A E) (f : A → Result B E) (g : B → Result C E) → then (then r f) g ≡ then r (λ x. then (f x) g)
then_then (Ok x) f g = refl
then_then (Err e) f g = refl
