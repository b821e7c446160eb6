-- A text cut at a byte: the lines of a text at its line feeds, the fields of a line at its commas.
use Rattle.std.specs.Prelude.{ℕ, suc, cond, List, [], ◌∷◌, ◌++◌, Some, None, Option, ◌==◌, slice_index_or}
use Rattle.std.specs.Borrow.{Bor}

-- how many bytes stand before the first b: all of them where there is none
abbrev pub before : ℕ → List ℕ → ℕ
before b [] = 0
before b (x ∷ xs) = cond (x == b) 0 (suc (before b xs))

-- the first piece, one byte longer at its front
abbrev pub longer : ℕ → List (List ℕ) → List (List ℕ)
longer x [] = (x ∷ []) ∷ []
longer x (p ∷ ps) = (x ∷ p) ∷ ps

-- what the bytes b part: always one piece more than there are such bytes
abbrev pub pieces : ℕ → List ℕ → List (List ℕ)
pieces b [] = [] ∷ []
pieces b (x ∷ xs) = cond (x == b) ([] ∷ pieces b xs) (longer x (pieces b xs))

-- the pieces of what follows a piece: none where no b ended it
abbrev pub pieces_left : ℕ → Option (Bor (List ℕ)) → List (List ℕ)
pieces_left b None = []
pieces_left b (Some rest) = pieces b rest.now

-- the pieces with b between them
abbrev pub parted_by : ℕ → List (List ℕ) → List ℕ
parted_by b [] = []
parted_by b (p ∷ []) = p
parted_by b (p ∷ q ∷ ps) = p ++ b ∷ parted_by b (q ∷ ps)

abbrev pub fields_of : List ℕ → List (List ℕ)
fields_of line = pieces 44 line

abbrev pub fields_left : Option (Bor (List ℕ)) → List (List ℕ)
fields_left rest = pieces_left 44 rest

-- the field at place k from 0, and nothing past the last
abbrev pub field : List (List ℕ) → ℕ → List ℕ
field fs k = slice_index_or fs k []
