-- A tick by the machine's calls.
use Rattle.std.specs.Prelude.{ℕ, ◌+◌, List, [], ◌∷◌, Some, None, Ok, Err, Option, Result}
use Rattle.text.specs.declared.fault.Fault.{Fault}
use Rattle.text.specs.Results.{then, mapped}
use Rattle.kit.specs.Meaning.{Meaning}
use Rattle.draft.specs.Drawings.{Drawing}
use Rattle.machine.specs.declared.answers.Given.{Given}
use Rattle.machine.specs.declared.answers.Intent.{Intent}
use Rattle.machine.specs.declared.answers.Intent.TheVariants.{Drop}
use Rattle.machine.specs.Machine.{State, Token, Outcome, refused, accepted, begin, supply, settle, close}
use Rattle.tick.specs.declared.played.Played.{Played}

-- what follows an accepted call; a refusal ends it
abbrev pub unless : {V A B : Type 0} → Outcome V (Result A Fault) → Outcome V (Result B Fault) → Result A Fault → Outcome V (Result B Fault)
unless o rest (Ok x) = rest
unless o rest (Err f) = refused o.state f

-- the inputs supplied from wire w on; None supplies nothing
unfoldable pub supplied : {V : Type 0} → Drawing → State V → ℕ → List (Option (Given V)) → Outcome V (Result (Unit {0}) Fault)
supplied d s w [] = accepted tt s
supplied d s w (None ∷ gs) = supplied d s (w + 1) gs
supplied d s w (Some g ∷ gs) = let o = supply d s w g in unless o (supplied d o.state (w + 1) gs) o.answer

-- settled, and closed with the token
abbrev pub finished : {V : Type 0} → Meaning V → Drawing → Token → Intent → State V → Outcome V (Result Played Fault)
finished m d t i s =
    let x = settle m d s in
    let y = close m d x.state t i in
    record { answer = then x.answer (λ n. mapped (λ c. record { settled = n; closed = c }) y.answer); state = y.state }

-- where a supply was refused, the tick is dropped
abbrev pub fed : {V : Type 0} → Meaning V → Drawing → Token → Intent → State V → Result (Unit {0}) Fault → Outcome V (Result Played Fault)
fed m d t i s (Ok u) = finished m d t i s
fed m d t i s (Err f) = record { answer = Err f; state = (close m d s t Drop).state }

abbrev pub opened : {V : Type 0} → Meaning V → Drawing → State V → List (Option (Given V)) → Intent → Result Token Fault → Outcome V (Result Played Fault)
opened m d s gs i (Ok t) = let x = supplied d s 0 gs in fed m d t i x.state x.answer
opened m d s gs i (Err f) = refused s f

-- a tick: begun, supplied, settled and closed
unfoldable pub played : {V : Type 0} → Meaning V → Drawing → State V → List (Option (Given V)) → Intent → Outcome V (Result Played Fault)
played m d s gs i = let x = begin s in opened m d x.state gs i x.answer
