-- What a text draws, or the fault that refuses it, line by line.
use Rattle.std.specs.Prelude.{ℕ, ◌+◌, cond, List, [], ◌∷◌, ◌++◌, length, Ok, Err, Result, ◌==◌}
use Rattle.text.specs.declared.fault.Cause.TheVariants.{FieldCount}
use Rattle.text.specs.declared.fault.Fault.{Fault}
use Rattle.text.specs.Pieces.{pieces, fields_of}
use Rattle.text.specs.Results.{then, fault}
use Rattle.draft.specs.declared.block.Block.{Block}
use Rattle.draft.specs.Drawings.{Drawing}
use Rattle.draft.specs.Lines.{block_line, diagram_line}

-- the pieces of a text at its line feeds are its lines, and last what has no line feed, which has to be empty
unfoldable pub blocks_of : ℕ → List Block → List (List ℕ) → Result (List Block) Fault
blocks_of k bs [] = Ok bs
blocks_of k bs (rest ∷ []) = cond (length rest == 0) (Ok bs) (Err (fault FieldCount k 0))
blocks_of k bs (line ∷ next ∷ more) = then (block_line k (length bs) (fields_of line)) (λ b. blocks_of (k + 1) (bs ++ b ∷ []) (next ∷ more))

-- a line for the diagram, then one for each block
unfoldable pub drawing_in : List (List ℕ) → Result Drawing Fault
drawing_in [] = Err (fault FieldCount 1 0)
drawing_in (rest ∷ []) = Err (fault FieldCount 1 0)
drawing_in (line ∷ next ∷ more) =
    then (diagram_line (fields_of line)) (λ sizes.
    then (blocks_of 2 [] (next ∷ more)) (λ bs.
    Ok (record { inputs = sizes.0; wires = sizes.1; blocks = bs })))

abbrev pub draft_of : List ℕ → Result Drawing Fault
draft_of text = drawing_in (pieces 10 text)
