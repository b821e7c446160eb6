use Rattle.std.proofs.Common.{◌≡◌, suc, ◌+◌, ◌≤◌, [], ◌∷◌, ◌++◌, length, ap, ◌∙◌, arith, rules}
use Rattle.std.proofs.lemmas.List.{length-append}
use Rattle.machine.proofs.Rows.{known_within}
use Rattle.machine.specs.Firing.{fired, after_fire}
use Rattle.machine.specs.Tables.{block_at, cell_at}
use Rattle.tables.specs.Lent.{drawing_of_tables}
use Rattle.tables.proofs.Places.{ports_below}
use Rattle.tables.proofs.Turns.{Turn, turn}
use Rattle.tables.proofs.lent.Tables.round.Given.{Over}
use Rattle.tables.proofs.lent.Tables.round.Goals as goal
use Rattle.tables.proofs.lent.Tables.round.Goals.{In-Some}

this_turn : (g : Over) (c : In-Some g) → Turn c.args.self.now (length c.loop-block.yielded) (c.in-Some.block, c.in-Some.cell)
this_turn g c =
    turn c.args.self.now c.loop-block.yielded c.into_iter-block-iterator.result c.loop-block.block-iterator c.next.new.self c.next.result (c.in-Some.block, c.in-Some.cell) (search rules) (search rules) c.loop-block.yielded_by c.in-Some.is c.next.ensures.steps

pub fire_block-known-requires : goal.fire_block-known-requires
fire_block-known-requires g c =
    let t = c.args.self.now in
    let now = this_turn g (goal.at.fire_block-known-requires g c).In-Some in
    ports_below t.diagram.now c.loop-block.wires (length c.loop-block.yielded) c.in-Some.block.now (c.loop-block.auto.wires ∙ t.fit.wires_fit) now.inside now.block

pub overflow_add-known : goal.overflow_add-known
overflow_add-known g c =
    let few : c.loop-block.known + c.fire_block-known.result ≤ length c.args.self.now.wires.now = omega (arith, c.loop-block.invariant.3, c.fire_block-known.ensures.count, known_within c.fire_block-known.new.wires, c.fire_block-known.auto.wires, c.loop-block.auto.wires) in
    search rules

pub loop-block-preserved : goal.loop-block-preserved
loop-block-preserved g c =
    let t = c.args.self.now in
    let d = drawing_of_tables t in
    let m = g.K.Kit.meaning c.args.kit.now in
    let k = length c.loop-block.yielded in
    let now = this_turn g (goal.at.loop-block-preserved g c).In-Some in
    let next : suc k ≡ length (c.loop-block.yielded ++ (c.in-Some.block, c.in-Some.cell) ∷ []) = omega (arith, length-append c.loop-block.yielded ((c.in-Some.block, c.in-Some.cell) ∷ [])) in (
      _,
      _,
      c.fire_block-known.ensures.after
          ∙ (λ i. after_fire m c.loop-block.wires (now.block i) (now.cell i))
          ∙ ap (λ ws. after_fire m ws (block_at d k) (cell_at t.cells.now k)) c.loop-block.invariant.2
          ∙ ap (fired m d t.cells.now t.wires.now) next,
      omega (arith, c.loop-block.invariant.3, c.fire_block-known.ensures.count),
    )
