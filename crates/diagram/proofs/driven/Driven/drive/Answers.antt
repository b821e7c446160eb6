use Rattle.std.proofs.Common.{rules}
use Rattle.diagram.proofs.MarkLaws.{contains_marked, marked_one}
use Rattle.diagram.proofs.driven.Driven.drive.Goals as goal

pub returns-then-self-at-clause-answer : goal.returns-then-self-at-clause-answer
returns-then-self-at-clause-answer c = rw (← c.self.view_is, contains_marked) (search rules)

pub returns-clause-answer : goal.returns-clause-answer
returns-clause-answer c = rw (← c.self.view_is, contains_marked) (search rules)

pub returns-clause-state : goal.returns-clause-state
returns-clause-state c = rw (← c.self.view_is) (search (rules, marked_one))
