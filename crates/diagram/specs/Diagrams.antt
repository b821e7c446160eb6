-- A diagram as the drawing that it holds.
use Rattle.std.specs.Prelude.{[]}
use Rattle.draft.specs.Drafts.{drawing_of}
use Rattle.draft.specs.Drawings.{Drawing}
use Rattle.diagram.specs.declared.diagram.Diagram.{Diagram}

abbrev pub drawing : Diagram → Drawing
drawing d = drawing_of d.drawn

abbrev pub empty_drawing : Drawing
empty_drawing = record { inputs = 0; wires = 0; blocks = [] }
