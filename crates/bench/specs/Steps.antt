-- One line of a list.
use Rattle.std.specs.Prelude.{◌≡◌, ℕ, ◌+◌, ◌⊎◌, List, [], ◌∷◌, ℤ, Err, Option, Result}
use Rattle.text.specs.declared.fault.Cause.TheVariants.{FieldCount}
use Rattle.text.specs.declared.fault.Fault.{Fault}
use Rattle.text.specs.declared.lines.Lines.{Lines}
use Rattle.text.specs.LineWalk.{lines_left}
use Rattle.text.specs.Results.{fault}
use Rattle.kit.specs.Meaning.{Meaning}
use Rattle.draft.specs.Drawings.{Drawing}
use Rattle.machine.specs.Machine.{State}
use Rattle.tick.specs.declared.played.Played.{Played}
use Rattle.bench.specs.Lists.{line_played}

-- the walk from l to l' took a line, which was played by a run in state s
pub record Taken {V : Type 0} (valued : ℤ → Option V) (m : Meaning V) (d : Drawing) (s : State V) (l : Lines) (r : Result Played Fault) (s' : State V) (l' : Lines) : Type 0 where
  pub line : List ℕ
  pub taken : lines_left l ≡ line ∷ lines_left l'
  pub number : l'.taken ≡ l.taken + 1
  pub answer : r ≡ (line_played valued m d s (l.taken + 1) line).answer
  pub state : s' ≡ (line_played valued m d s (l.taken + 1) line).state

-- or refused what has no line feed
pub record Cut (l : Lines) (r : Result Played Fault) : Type 0 where
  pub last : lines_left l ≡ l.rest.now ∷ []
  pub answer : r ≡ Err (fault FieldCount (l.taken + 1) 0)

abbrev pub NextTick : {V : Type 0} → (ℤ → Option V) → Meaning V → Drawing → State V → Lines → Result Played Fault → State V → Lines → Type 0
NextTick valued m d s l r s' l' = Taken valued m d s l r s' l' ⊎ Cut l r
