-- How many wires are known.
use Rattle.std.proofs.Common.{◌≡◌, ℕ, zero, suc, ◌+◌, ◌<◌, true, false, List, [], ◌∷◌, length, set, cond, refl, arith}
use Rattle.std.specs.List.{count_by}
use Rattle.std.proofs.lemmas.Bool.{false≢true}
use Rattle.std.proofs.lemmas.List.Recursion.{is_count_by}
use Rattle.kit.specs.declared.signal.Signal.{Signal}
use Rattle.kit.specs.declared.signal.Signal.TheVariants.{Unknown, Absent, Present}
use Rattle.kit.specs.Known.{is_known}
use Rattle.machine.specs.Tables.{at, weight, known}

counts : {V : Type 0} (s : Signal V) (ws : List (Signal V)) → known (s ∷ ws) ≡ cond (is_known s) (1 + known ws) (known ws)
counts Unknown ws = omega arith
counts Absent ws = refl
counts (Present v) ws = refl

pub known_by : {V : Type 0} (ws : List (Signal V)) → known ws ≡ count_by is_known ws
known_by ws = is_count_by known is_known refl counts ws

weighs : {V : Type 0} (s : Signal V) → is_known s ≡ true → weight s ≡ 1
weighs Unknown h = absurd (false≢true h)
weighs Absent h = refl
weighs (Present v) h = refl

-- one wire more becomes known
pub known_more : {V : Type 0} (ws : List (Signal V)) (w : ℕ) (s : Signal V) → w < length ws → is_known (at ws w) ≡ false → is_known s ≡ true → known (set ws w s) ≡ 1 + known ws
known_more [] w s l was is = absurd (omega arith)
known_more (Unknown ∷ ws) zero s l was is = omega (arith, weighs s is)
known_more (Absent ∷ ws) zero s l was is = cc
known_more (Present v ∷ ws) zero s l was is = cc
known_more (x ∷ ws) (suc w) s l was is = omega (arith, known_more ws w s (omega arith) was is)
