-- The words by which readings are put together.
use Rattle.std.specs.Prelude.{ℕ, Ok, Err, Result}
use Rattle.text.specs.declared.fault.Cause.{Cause}
use Rattle.text.specs.declared.fault.Fault.{Fault}

-- goes on with what was read; a fault passes unaltered
abbrev pub then : {A B E : Type 0} → Result A E → (A → Result B E) → Result B E
then (Ok x) f = f x
then (Err e) f = Err e

abbrev pub mapped : {A B E : Type 0} → (A → B) → Result A E → Result B E
mapped f (Ok x) = Ok (f x)
mapped f (Err e) = Err e

abbrev pub fault : Cause → ℕ → ℕ → Fault
fault c m n = record { cause = c; first = m; second = n }

-- a cause gets its two places
abbrev pub placed : {A : Type 0} → ℕ → ℕ → Result A Cause → Result A Fault
placed m n (Ok x) = Ok x
placed m n (Err c) = Err (fault c m n)
