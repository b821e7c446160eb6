-- The text of a drawing.
use Rattle.std.specs.Prelude.{ℕ, ◌^◌, ◌<◌, ◌≤◌, List, [], ◌∷◌, ◌++◌, length, codes, decimal}
use Rattle.std.specs.Int.Signed.{mag}
use Rattle.std.specs.List.{flat_map}
use Rattle.std.specs.Fmt.{signed_decimal}
use Rattle.text.specs.Pieces.{parted_by}
use Rattle.draft.specs.declared.block.Block.{Block}
use Rattle.draft.specs.declared.block.InPorts.{InPorts}
use Rattle.draft.specs.declared.block.InPorts.TheVariants.{Zero, One as OneIn, Two as TwoIn, Three}
use Rattle.draft.specs.declared.block.OutPorts.{OutPorts}
use Rattle.draft.specs.declared.block.OutPorts.TheVariants.{One as OneOut, Two as TwoOut}
use Rattle.draft.specs.Drawings.{Drawing}
use Rattle.draft.specs.Limits.{most_inputs, most_wires, last_wire, most_blocks, last_kind}

-- three fields for the inputs: unused ports are empty
abbrev pub in_fields : InPorts → List (List ℕ)
in_fields Zero = [] ∷ [] ∷ [] ∷ []
in_fields (OneIn a) = decimal a ∷ [] ∷ [] ∷ []
in_fields (TwoIn a b) = decimal a ∷ decimal b ∷ [] ∷ []
in_fields (Three a b c) = decimal a ∷ decimal b ∷ decimal c ∷ []

-- two fields for the outputs
abbrev pub out_fields : OutPorts → List (List ℕ)
out_fields (OneOut p) = decimal p ∷ [] ∷ []
out_fields (TwoOut p q) = decimal p ∷ decimal q ∷ []

abbrev pub block_fields : Block → List (List ℕ)
block_fields b = codes "block" ∷ decimal b.kind ∷ signed_decimal b.parameter ∷ (in_fields b.inputs ++ out_fields b.outputs)

abbrev pub diagram_fields : Drawing → List (List ℕ)
diagram_fields d = codes "diagram" ∷ decimal d.inputs ∷ decimal d.wires ∷ []

-- commas part the fields of a line, and a line feed ends it
abbrev pub line_of : List (List ℕ) → List ℕ
line_of fields = parted_by 44 fields ++ 10 ∷ []

abbrev pub block_text : Block → List ℕ
block_text b = line_of (block_fields b)

unfoldable pub text_of : Drawing → List ℕ
text_of d = line_of (diagram_fields d) ++ flat_map block_text d.blocks

-- What can be written down: every number is in its range.
abbrev pub InsLegible : InPorts → Type 0
InsLegible Zero = Unit {0}
InsLegible (OneIn a) = a ≤ last_wire
InsLegible (TwoIn a b) = (a ≤ last_wire) × (b ≤ last_wire)
InsLegible (Three a b c) = (a ≤ last_wire) × (b ≤ last_wire) × (c ≤ last_wire)

abbrev pub OutsLegible : OutPorts → Type 0
OutsLegible (OneOut p) = p ≤ last_wire
OutsLegible (TwoOut p q) = (p ≤ last_wire) × (q ≤ last_wire)

pub record Legible (b : Block) : Type 0 where
  pub known_range : b.kind ≤ last_kind
  pub signed_range : mag b.parameter < 2 ^ 31
  pub ins : InsLegible b.inputs
  pub outs : OutsLegible b.outputs

abbrev pub AllLegible : List Block → Type 0
AllLegible [] = Unit {0}
AllLegible (b ∷ bs) = Legible b × AllLegible bs

pub record Drawable (d : Drawing) : Type 0 where
  pub few_inputs : d.inputs ≤ most_inputs
  pub inputs_among : d.inputs ≤ d.wires
  pub few_wires : d.wires ≤ most_wires
  pub few_blocks : length d.blocks ≤ most_blocks
  pub legible : AllLegible d.blocks
