-- A walk over the fields of a line.
use Rattle.std.specs.Prelude.{◌≡◌, ℕ, ◌+◌, min, cond, List, length, Ok, Err, Result, ◌==◌}
use Rattle.std.specs.Str.{bytes_eq}
use Rattle.text.specs.declared.fault.Cause.{Cause}
use Rattle.text.specs.declared.fault.Cause.TheVariants.{Form, FieldCount}
use Rattle.text.specs.declared.fault.Fault.{Fault}
use Rattle.text.specs.declared.fields.Fields.{Fields}
use Rattle.text.specs.Pieces.{fields_of, field}
use Rattle.text.specs.Results.{fault, placed}

abbrev pub fields_in : Fields → List (List ℕ)
fields_in f = fields_of f.line.now

-- the walk over the line's fields, before its first
pub record Begins (f : Fields) (line : List ℕ) (number : ℕ) : Type 0 where
  pub same_line : f.line.now ≡ line
  pub same_number : f.number ≡ number
  pub none_taken : f.taken ≡ 0

-- the next field, which is empty past the last
abbrev pub next_field : Fields → List ℕ
next_field f = field (fields_in f) f.taken

-- g is f with one field more taken, if f has one left
pub record Moved (f g : Fields) : Type 0 where
  pub same_line : g.line.now ≡ f.line.now
  pub same_number : g.number ≡ f.number
  pub one_taken : g.taken ≡ min (f.taken + 1) (length (fields_in f))

-- a cause gets the line and the field last taken for its place
abbrev pub at_last : {A : Type 0} → Fields → Result A Cause → Result A Fault
at_last f r = placed f.number f.taken r

-- the line has to have so many fields
abbrev pub count_expected : Fields → ℕ → Result (Unit {0}) Fault
count_expected f wanted = let found = length (fields_in f) in cond (found == wanted) (Ok tt) (Err (fault FieldCount f.number found))

unfoldable pub word_in : List ℕ → List ℕ → Result (Unit {0}) Cause
word_in word field = cond (bytes_eq field word) (Ok tt) (Err Form)

unfoldable pub empty_in : List ℕ → Result (Unit {0}) Cause
empty_in field = cond (length field == 0) (Ok tt) (Err Form)
