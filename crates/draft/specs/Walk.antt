-- A walk over the fields of a line whose number of fields is known.
use Rattle.std.specs.Prelude.{◌≡◌, ℕ, length}
use Rattle.text.specs.declared.fields.Fields.{Fields}
use Rattle.text.specs.Walk.{fields_in}

-- n of the line's m fields are taken
pub record Before (f : Fields) (m n : ℕ) : Type 0 where
  pub in_all : length (fields_in f) ≡ m
  pub so_far : f.taken ≡ n

-- g is f after n fields
pub record Walked (f g : Fields) (n : ℕ) : Type 0 where
  pub same_line : g.line.now ≡ f.line.now
  pub same_number : g.number ≡ f.number
  pub so_far : g.taken ≡ n
