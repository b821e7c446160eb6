use Rattle.std.proofs.Common.{◌≡◌, ◌≤◌, [], length, Ok, Err, Result, sym, ap, ◌∙◌, arith}
use Rattle.std.specs.FinSet.{FinSet, from_list}
use Rattle.std.specs.Ordering.{nat_cmp}
use Rattle.std.proofs.lemmas.Result.{err_from_is_err_and}
use Rattle.text.specs.declared.fault.Cause.TheVariants.{NotDriven}
use Rattle.text.specs.declared.fault.Fault.{Fault}
use Rattle.text.specs.Results.{mapped, fault}
use Rattle.draft.specs.Drafts.{drawing_of}
use Rattle.draft.specs.Limits.{most_wires}
use Rattle.diagram.specs.Wiring.{ports_within, driven_in, wiring_of}
use Rattle.diagram.proofs.MarkLaws.{missing, by_set, wiring_by_set}
use Rattle.diagram.proofs.WiringLaws.{outs_below}
use Rattle.diagram.proofs.wiring.check.Goals as goal
use Rattle.diagram.proofs.wiring.check.Goals.{After-ports_within}

-- the checks, by what the first of them and the second tell
abbrev checks : (c : After-ports_within) → Result (Unit {0}) Fault → Result (FinSet nat_cmp) Fault → Result (Unit {0}) Fault
checks c = by_set c.inputs-inputs.result c.wires-wires.result c.blocks-blocks.result.now

abbrev driven : (c : After-ports_within) → Result (FinSet nat_cmp) Fault
driven c = mapped from_list (driven_in 0 [] c.blocks-blocks.result.now)

told : (c : After-ports_within) (r : Result (Unit {0}) Fault) → c.ports_within.result ≡ r → wiring_of (drawing_of c.args.draft.now) ≡ checks c r (driven c)
told c r is =
    wiring_by_set (drawing_of c.args.draft.now)
    ∙ sym (λ i. by_set (c.inputs-inputs.ensures i) (c.wires-wires.ensures i) (c.blocks-blocks.ensures i) (ports_within (c.inputs-inputs.ensures i) (c.wires-wires.ensures i) 0 (c.blocks-blocks.ensures i)) (mapped from_list (driven_in 0 [] (c.blocks-blocks.ensures i))))
    ∙ ap (λ p. checks c p (driven c)) (sym c.ports_within.ensures ∙ is)

pub returns-in_err-ports_within : goal.returns-in_err-ports_within
returns-in_err-ports_within c =
    let at = (goal.at.returns-in_err-ports_within c).After-ports_within in
    let p = err_from_is_err_and c.from_residual.result c.from_residual.ensures.1 in
    p.1 ∙ ap Err p.2 ∙ sym (told at _ c.in_err-ports_within.was)

pub of-requires : goal.of-requires
of-requires c =
    let small : c.wires-wires.result ≤ most_wires = omega (arith, c.wires-wires.ensures, c.args.draft.now.few_wires) in
    outs_below c.inputs-inputs.result c.wires-wires.result 0 most_wires c.blocks-blocks.result.now tt small (sym c.in_ok-ports_within.ensures)

pub returns-in_err-driven : goal.returns-in_err-driven
returns-in_err-driven c =
    let at = (goal.at.returns-in_err-driven c).After-ports_within in
    let p = err_from_is_err_and c.from_residual-in_err-driven.result c.from_residual-in_err-driven.ensures.1 in
    p.1 ∙ ap Err p.2 ∙ sym (told at (Ok tt) c.in_ok-ports_within.was ∙ ap (checks at (Ok tt)) (sym c.in_err-driven.ensures))

pub returns-in-Some : goal.returns-in-Some
returns-in-Some c =
    let at = (goal.at.returns-in-Some c).After-ports_within in
    let n = length c.blocks-blocks.result.now in
    ap Err c.new.ensures
    ∙ sym (told at (Ok tt) c.in_ok-ports_within.was ∙ ap (checks at (Ok tt)) (sym c.in_ok-driven.ensures)
    ∙ ap (missing n) (sym c.first_missing.ensures ∙ c.in-Some.is) ∙ ap (λ w. Err (fault NotDriven n w)) (sym c.from.ensures))

pub returns-in-None : goal.returns-in-None
returns-in-None c =
    let at = (goal.at.returns-in-None c).After-ports_within in
    sym (told at (Ok tt) c.in_ok-ports_within.was ∙ ap (checks at (Ok tt)) (sym c.in_ok-driven.ensures)
    ∙ ap (missing (length c.blocks-blocks.result.now)) (sym c.first_missing.ensures ∙ c.in-None.is))
