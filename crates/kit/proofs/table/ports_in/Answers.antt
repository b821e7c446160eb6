-- By the first row that has the kind.
use Rattle.std.proofs.Common.{◌∙◌, ap}
use Rattle.kit.proofs.Lookup.{counts, by_first}
use Rattle.kit.proofs.table.ports_in.Goals as goal

pub returns-in-Some : goal.returns-in-Some
returns-in-Some c = ap counts c.in-Some.ensures ∙ by_first c.args.table.now c.args.kind

pub returns-in-None : goal.returns-in-None
returns-in-None c = ap counts c.in-None.ensures ∙ by_first c.args.table.now c.args.kind
