use Rattle.std.proofs.Common.{sym}
use Rattle.draft.specs.Drafts.{drawing_of}
use Rattle.diagram.proofs.WiringLaws.{wired_only}
use Rattle.diagram.proofs.diagram.Diagram.of.Goals as goal

-- a draft that passes the checks is wired
pub invariant_of-result : goal.invariant_of-result
invariant_of-result c =
    let w = wired_only (drawing_of c.args.draft) tt (sym c.in_ok-check.ensures) in
    record { reads_below = w.reads_below; drives_within = w.drives_within; driven_once = w.driven_once }
