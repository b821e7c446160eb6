use Rattle.std.proofs.Common.{◌≡◌, sym, ap, ◌∙◌, ◌<◌, length, arith}
use Rattle.std.proofs.lemmas.List.{get_or_read}
use Rattle.kit.specs.declared.signal.Signal.TheVariants.{Unknown}
use Rattle.kit.specs.Known.{is_known}
use Rattle.machine.specs.Tables.{at}
use Rattle.tables.proofs.KnownLaws.{known_more}
use Rattle.tables.proofs.firing.put.Goals as goal

pub returns-clause-count : goal.returns-clause-count
returns-clause-count g c =
    let ws = c.args.wires.now in
    let w = c.from-at.result in
    let inside : w < length ws = omega (arith, c.requires, c.from-at.ensures) in
    let here : at ws w ≡ c.index-wires-at.result = sym (get_or_read ws w c.index-wires-at.result inside c.index-wires-at.is Unknown) in
    sym (known_more ws w c.args.answer inside (ap is_known here ∙ sym c.is_known.ensures ∙ c.if-is_known.false) (sym c.is_known-else-is_known.ensures ∙ c.if-not-is_known.false))
