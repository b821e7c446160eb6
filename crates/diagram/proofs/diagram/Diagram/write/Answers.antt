use Rattle.std.proofs.Common.{refl}
use Rattle.draft.specs.Text.{text_of}
use Rattle.diagram.specs.Diagrams.{drawing}
use Rattle.diagram.proofs.Legibles.{is_diagram}
use Rattle.diagram.proofs.ReadLaws.{reads_exactly}
use Rattle.diagram.proofs.diagram.Diagram.write.Goals as goal

pub returns-then-found-wanted-clause-read_back : goal.returns-then-found-wanted-clause-read_back
returns-then-found-wanted-clause-read_back c =
    (reads_exactly (text_of (drawing c.args.self.now))).all (drawing c.args.self.now) refl (is_diagram c.args.self.now)

pub returns-clause-read_back : goal.returns-clause-read_back
returns-clause-read_back c =
    (reads_exactly (text_of (drawing c.args.self.now))).all (drawing c.args.self.now) refl (is_diagram c.args.self.now)
