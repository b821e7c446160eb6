use Rattle.std.proofs.Common.{rules}
use Rattle.diagram.proofs.MarkLaws.{contains_marked}
use Rattle.diagram.proofs.driven.Driven.contains.Goals as goal

pub returns : goal.returns
returns c = rw (← c.self.view_is, contains_marked) (search rules)
