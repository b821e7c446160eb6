use Rattle.std.proofs.Common.{get_or, ap}
use Rattle.draft.specs.Drawings.{blank}
use Rattle.tables.proofs.Places.{ports_below}
use Rattle.tables.proofs.lent.Tables.fire_at.Goals as goal

pub fire_block-requires : goal.fire_block-requires
fire_block-requires g c =
    let t = c.args.self.now in
    ports_below t.diagram.now t.wires.now c.args.k (get_or c.blocks-2.result.now c.args.k blank) t.fit.wires_fit c.requires (ap (λ bs. get_or bs c.args.k blank) c.blocks-2.ensures)
