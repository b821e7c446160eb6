-- Strict kinds.
use Rattle.kit.specs.declared.signal.Signal.{Signal}
use Rattle.kit.specs.declared.signal.Signal.TheVariants.{Unknown, Absent, Present}

-- two signals as one: unknown if either is unknown, else absent if either is absent, else both values
abbrev pub together : {A B : Type 0} → Signal A → Signal B → Signal (A × B)
together Unknown b = Unknown
together Absent Unknown = Unknown
together Absent Absent = Absent
together Absent (Present y) = Absent
together (Present x) Unknown = Unknown
together (Present x) Absent = Absent
together (Present x) (Present y) = Present (x, y)

-- a strict kind on its inputs taken together: unknown if one is unknown, else absent if one is absent, else its rule
abbrev pub strict : {A V : Type 0} → (A → V) → Signal A → Signal V
strict rule Unknown = Unknown
strict rule Absent = Absent
strict rule (Present x) = Present (rule x)
