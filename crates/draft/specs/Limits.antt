-- The limits of a diagram, each in this one place of the definitions.
use Rattle.std.specs.Prelude.{ℕ}

abbrev pub most_inputs : ℕ
most_inputs = 16

abbrev pub most_wires : ℕ
most_wires = 144

-- the last wire that a text can name
abbrev pub last_wire : ℕ
last_wire = 143

abbrev pub most_blocks : ℕ
most_blocks = 64

abbrev pub last_kind : ℕ
last_kind = 255
