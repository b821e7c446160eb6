use Rattle.std.proofs.Common.{sym, ◌∙◌, arith}
use Rattle.machine.specs.Tables.{answer}
use Rattle.tables.proofs.Knowing.{all_kept}
use Rattle.tables.proofs.firing.fire_block.Goals as goal

pub returns-then-all_known : goal.returns-then-all_known
returns-then-all_known g c =
    let ws = c.args.wires.now in
    let b = c.args.block.now in
    let m = g.K.Kit.meaning c.args.kit.now in
    record { after = sym (all_kept ws b.outputs (answer m ws b c.args.cell.now) (sym c.all_known.ensures ∙ c.if-all_known.true)); count = omega arith }
