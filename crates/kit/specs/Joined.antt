-- The joining of two kits.
use Rattle.std.specs.Prelude.{ℕ, cond}
use Rattle.kit.specs.Meaning.{Meaning, Lawful, knows}
use Rattle.kit.specs.Orderly.{Orderly}

-- who answers for a kind: the first kit if it knows the kind, else the second
abbrev pub answering : {V : Type 0} → Meaning V → Meaning V → ℕ → Meaning V
answering first second kind = cond (knows first kind) first second

-- the first kit answers all four questions for the kinds it knows, the second for the others
abbrev pub joined : {V : Type 0} → Meaning V → Meaning V → Meaning V
joined first second = record {
  ports = λ kind. (answering first second kind).ports kind;
  start = λ kind. (answering first second kind).start kind;
  fire = λ kind. (answering first second kind).fire kind;
  next = λ kind. (answering first second kind).next kind;
}

-- what both kits keep, the joined kit keeps
pub record JoiningKeeps (V : Type 0) : Type 0 where
  pub lawful : (m n : Meaning V) → Lawful m → Lawful n → Lawful (joined m n)
  pub orderly : (m n : Meaning V) → Orderly m → Orderly n → Orderly (joined m n)
