-- What comes of an input.
use Rattle.std.specs.Prelude.{◌≡◌, ℕ, ◌+◌, ◌<◌, ◌≤◌, List, length, ℤ, Option}
use Rattle.std.specs.Io.KnownBytes.{Consumes, IsAtEnd}
use Rattle.kit.specs.Meaning.{Meaning}
use Rattle.profile.specs.Opening.{most_bytes}
use Rattle.bench.specs.Lists.{listed, printed}
use Rattle.bench.specs.Telling.{TellsLeast}

-- A list was read from what was left to read, old, and new is left; out is what it prints.
pub record PlaysInput {V : Type 0} (valued : ℤ → Option V) (numbered : V → ℤ) (m : Meaning V) (old new : Option (List ℕ)) (out : List ℕ) : Type 0 where
  -- what was read: all that there was, or one byte more than a list may have
  pub input : List ℕ
  pub read : Consumes old new input
  pub within : length input ≤ most_bytes + 1
  pub all : length input < most_bytes + 1 → IsAtEnd new
  -- each tick shows the least solution, and all is printed
  pub tells : TellsLeast valued m input
  pub prints : out ≡ printed numbered (listed valued m input)
