-- A table of cases, and what is told of those that were tried.
use Rattle.std.specs.Prelude.{◌≡◌, ℕ, Bool, not, cond, List, [], ◌++◌, ◌==◌, ⊤, Option, None, Some, map, length, All, unwrap_or, slice_get, codes, decimal}
use Rattle.std.specs.List.{slice_split, flat_map, count_by}
use Rattle.std.specs.Io.KnownBytes.{Appends}
use Rattle.std.specs.Str.{bytes_eq}
use Rattle.std.specs.Str.Lines.{lines}

-- a column of a line, which tabs part; one that the line lacks is empty
abbrev pub column : ℕ → List ℕ → List ℕ
column at line = unwrap_or (slice_get (slice_split (λ b. b == 9) line) at) []

-- a case that was tried: its line, and what was found
abbrev pub Tried : Type 0
Tried = List ℕ × List ℕ

abbrev pub is_wrong : List ℕ → List ℕ → Bool
is_wrong expected found = not (bytes_eq found expected)

abbrev pub went_wrong : Tried → Bool
went_wrong t = is_wrong (column 2 t.0) t.1

-- a line is told where something else was found than expected
abbrev pub told_of : List ℕ → List ℕ → List ℕ → List ℕ
told_of line expected found = cond (is_wrong expected found) (line ++ (codes ": found " ++ (found ++ codes "\n"))) []

abbrev pub ends : ℕ → ℕ → List ℕ
ends cases wrong = decimal cases ++ (codes " cases, " ++ (decimal wrong ++ codes " otherwise than expected\n"))

abbrev pub report : List Tried → List ℕ
report ts = flat_map (λ t. told_of t.0 (column 2 t.0) t.1) ts ++ ends (length ts) (count_by went_wrong ts)

-- each line of the table was tried, in its order, and this is the report
pub record Tells (finds : List ℕ → List ℕ → List ℕ → Type 0) (table told : List ℕ) : Type 0 where
  pub tries : List Tried
  pub in_order : map (λ t. t.0) tries ≡ lines table
  pub found : All (λ t. finds (column 0 t.0) (column 3 t.0) t.1) tries
  pub reported : told ≡ report tries

-- where the table that a reader has left is known, this is what a writer's known bytes grow by
abbrev pub TellsInto : (List ℕ → List ℕ → List ℕ → Type 0) → Option (List ℕ) → Option (List ℕ) → Option (List ℕ) → Type 0
TellsInto finds None old new = ⊤
TellsInto finds (Some table) old new = (told : List ℕ) × Tells finds table told × Appends old new told
