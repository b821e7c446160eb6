-- Tables in use, and what a call on them keeps.
use Rattle.std.specs.Prelude.{◌≡◌}
use Rattle.draft.specs.Drawings.{Drawing}
use Rattle.diagram.specs.Diagrams.{drawing}
use Rattle.tables.specs.declared.lent.Tables.{Tables}

abbrev pub drawing_of_tables : {V : Type 0} → Tables V → Drawing
drawing_of_tables t = drawing t.diagram.now

-- the same diagram and cells, and still the wires that were lent, whatever they now carry
pub record SameLoans {V : Type 0} (s t : Tables V) : Type 0 where
  pub diagram : t.diagram ≡ s.diagram
  pub cells : t.cells ≡ s.cells
  pub wires : t.wires.ghost_name ≡ s.wires.ghost_name
