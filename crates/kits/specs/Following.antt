-- What a strict kind answers, where its rule is a relation.
use Rattle.std.specs.Prelude.{◌≡◌}
use Rattle.kit.specs.declared.signal.Signal.{Signal}
use Rattle.kit.specs.declared.signal.Signal.TheVariants.{Unknown, Absent, Present}

-- unknown on unknown, absent on absent, and on a value what the rule gives for it
abbrev pub Follows : {A V : Type 0} → (A → V → Type 0) → Signal A → Signal V → Type 0
Follows rule Unknown r = r ≡ Unknown
Follows rule Absent r = r ≡ Absent
Follows {A} {V} rule (Present x) r = (v : V) × rule x v × (r ≡ Present v)
