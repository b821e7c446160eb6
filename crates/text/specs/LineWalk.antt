-- A walk over the lines of a text.
use Rattle.std.specs.Prelude.{◌≡◌, ℕ, ◌+◌, ◌-◌, Bool, List, [], ◌∷◌, length, Ok, Err, Result}
use Rattle.std.specs.Borrow.{Bor}
use Rattle.std.specs.Str.{bytes_eq}
use Rattle.text.specs.declared.fault.Cause.TheVariants.{FieldCount}
use Rattle.text.specs.declared.fault.Fault.{Fault}
use Rattle.text.specs.declared.lines.Lines.{Lines}
use Rattle.text.specs.Pieces.{pieces, fields_of, field}
use Rattle.text.specs.Results.{fault}

-- the pieces of what is left at its line feeds: its lines, and last what has no line feed
abbrev pub lines_left : Lines → List (List ℕ)
lines_left l = pieces 10 l.rest.now

-- the next line, or what has no line feed
abbrev pub next_piece : Lines → List ℕ
next_piece l = field (lines_left l) 0

-- the line's first field is this word
unfoldable pub first_is : List ℕ → List ℕ → Bool
first_is word line = bytes_eq (field (fields_of line) 0) word

-- how many line feeds a text has
abbrev pub line_feeds : List ℕ → ℕ
line_feeds text = length (pieces 10 text) - 1

-- the walk stands at this text, after so many lines
pub record From (l : Lines) (rest : List ℕ) (taken : ℕ) : Type 0 where
  pub same_rest : l.rest.now ≡ rest
  pub same_taken : l.taken ≡ taken

-- the walk from l to m took a line, or refused what has no line feed
abbrev pub NextLine : Lines → Result (Bor (List ℕ)) Fault → Lines → Type 0
NextLine l (Ok line) m = (lines_left l ≡ line.now ∷ lines_left m) × (m.taken ≡ l.taken + 1)
NextLine l (Err f) m = (lines_left l ≡ l.rest.now ∷ []) × (f ≡ fault FieldCount (l.taken + 1) 0) × From m l.rest.now l.taken
