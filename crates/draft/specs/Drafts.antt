-- A draft as the drawing that it holds.
use Rattle.std.specs.Prelude.{[], ◌∷◌, ◌++◌, take}
use Rattle.draft.specs.declared.block.Block.{Block}
use Rattle.draft.specs.declared.draft.Draft.{Draft}
use Rattle.draft.specs.Drawings.{Drawing}

abbrev pub drawing_of : Draft → Drawing
drawing_of d = record { inputs = d.inputs; wires = d.wires; blocks = take d.count d.blocks }

-- one block more
abbrev pub drafted : Drawing → Block → Drawing
drafted d b = record { inputs = d.inputs; wires = d.wires; blocks = d.blocks ++ b ∷ [] }
