-- The block and the cell that a round has come to.
use Rattle.std.proofs.Common.{◌≡◌, ℕ, ◌<◌, List, length, Some, Option, Bor, Iter, None}
use Rattle.std.specs.declared.iter.Zip.{Zip}
use Rattle.std.proofs.iter.Yields.{fronts}
use Rattle.std.proofs.lemmas.Iterator.{zips}
use Rattle.std.proofs.lemmas.Slice.Zip.{zip_turn}
use Rattle.std.specs.Iterator.{Yields}
use Rattle.std.specs.Iterator.Adapters.{zip_first, zip_second}
use Rattle.std.specs.Slice.Iter.{iter_rest}
use Rattle.kit.specs.Cells.{Cell}
use Rattle.draft.specs.declared.block.Block.{Block}
use Rattle.draft.specs.Drawings.{blank}
use Rattle.machine.specs.Tables.{block_at, cell_at}
use Rattle.tables.specs.declared.lent.Tables.{Tables}
use Rattle.tables.specs.Lent.{drawing_of_tables}

-- at number k stand this block and this cell
pub record Turn {V : Type 0} (t : Tables V) (k : ℕ) (p : Bor Block × Bor (Cell V)) : Type 0 where
  pub inside : k < length (drawing_of_tables t).blocks
  pub block : p.0.now ≡ block_at (drawing_of_tables t) k
  pub cell : p.1.now ≡ cell_at t.cells.now k

pub turn : {V : Type 0} (t : Tables V) (xs : List (Bor Block × Bor (Cell V))) (from at next : Zip (Iter Block) (Iter (Cell V))) (r : Option (Bor Block × Bor (Cell V))) (p : Bor Block × Bor (Cell V)) → iter_rest (zip_first from) ≡ (drawing_of_tables t).blocks → iter_rest (zip_second from) ≡ t.cells.now → Yields (zips fronts fronts) from xs at → r ≡ Some p → zips fronts fronts at r next → Turn t (length xs) p
turn t xs from at next r p first second y e h =
    let is = zip_turn (drawing_of_tables t).blocks t.cells.now xs from at next r first second y p e h in
    record { inside = is.0; block = is.2 blank; cell = is.3 None }
