use Rattle.std.proofs.Common.{◌≡◌, ◌+◌, ◌-◌, ◌*◌, ◌≤◌, List, length, sym, ap, ◌∙◌, mul-le-mul_right, arith}
use Rattle.std.proofs.lemmas.List.{length-take-le}
use Rattle.kit.specs.declared.signal.Signal.{Signal}
use Rattle.draft.specs.Limits.{most_wires, most_blocks}
use Rattle.draft.specs.Drawings.{Drawing}
use Rattle.diagram.specs.Diagrams.{drawing}
use Rattle.machine.proofs.Rows.{known_within}
use Rattle.machine.specs.declared.answers.Settled.{Settled}
use Rattle.machine.specs.Settling.{Rounds}
use Rattle.machine.specs.Tables.{known}
use Rattle.tables.specs.Lent.{drawing_of_tables}
use Rattle.tables.proofs.KnownLaws.{known_by}
use Rattle.tables.proofs.Rounding.{loans_on, as_many, settles_on, settles_last}
use Rattle.tables.proofs.lent.Tables.settle.Goals as goal

abbrev settled_answer : {V : Type 0} → Drawing → List (Signal V) → Rounds V → Settled
settled_answer d from r = record { rounds = r.count; firings = r.count * length d.blocks; known = known r.wires - known from; unknown = length from - known r.wires }

pub overflow_add-rounds : goal.overflow_add-rounds
overflow_add-rounds g c =
    let at = c.loop-learned.self in
    let inv = c.loop-learned.invariant in
    omega (arith, inv.few, inv.learns, known_within at.wires.now, at.fit.wires_fit, at.diagram.now.drawn.few_wires)

pub overflow_add-known : goal.overflow_add-known
overflow_add-known g c =
    let next = c.round-learned.new.self in
    omega (arith, c.loop-learned.invariant.learns, c.round-learned.ensures.count, known_within next.wires.now, next.fit.wires_fit, next.diagram.now.drawn.few_wires)

pub loop-learned-smaller : goal.loop-learned-smaller
loop-learned-smaller g c =
    let next = c.round-learned.new.self in
    omega (arith, c.if-learned-eq0.false, c.round-learned.ensures.count, known_within next.wires.now, as_many c.loop-learned.self next c.round-learned.ensures.loans)

pub loop-learned-preserved : goal.loop-learned-preserved
loop-learned-preserved g c =
    let done = c.round-learned.ensures in
    settles_on (g.K.Kit.meaning c.args.kit.now) c.args.self.now c.loop-learned.self c.round-learned.new.self c.loop-learned.rounds c.loop-learned.known c.round-learned.result c.loop-learned.invariant done.after done.count done.loans c.if-learned-eq0.false

pub overflow_sub-unknown : goal.overflow_sub-unknown
overflow_sub-unknown g c =
    let ws = c.round-learned.new.self.wires.now in
    omega (arith, c.count_known.ensures, known_by ws, known_within ws)

pub overflow_mul-result : goal.overflow_mul-result
overflow_mul-result g c =
    let at = c.loop-learned.self in
    let inv = c.loop-learned.invariant in
    let drawn = c.round-learned.new.self.diagram.now.drawn in
    let n = length c.blocks-2.result.now in
    let few : c.loop-learned.rounds + 1 ≤ most_wires + 1 = omega (arith, inv.few, inv.learns, known_within at.wires.now, at.fit.wires_fit, at.diagram.now.drawn.few_wires) in
    let short : n ≤ most_blocks = omega (arith, ap length c.blocks-2.ensures, length-take-le drawn.count drawn.blocks (omega (arith, drawn.few_blocks, drawn.room)), drawn.few_blocks) in
    omega (arith, mul-le-mul_right n few, short)

pub returns : goal.returns
returns g c =
    let from = c.args.self.now in
    let d = drawing_of_tables from in
    let at = c.loop-learned.self in
    let next = c.round-learned.new.self in
    let inv = c.loop-learned.invariant in
    let done = c.round-learned.ensures in
    let i = c.loop-learned.rounds in
    let loans = loans_on from at next inv.loans done.loans in
    let is = settles_last (g.K.Kit.meaning c.args.kit.now) from at next i c.loop-learned.known c.round-learned.result inv done.after done.count c.if-learned-eq0.true in
    let firings : (i + 1) * length c.blocks-2.result.now ≡ (i + 1) * length d.blocks = ap (λ bs. (i + 1) * length bs) (c.blocks-2.ensures ∙ ap (λ x. (drawing x.now).blocks) loans.diagram) in
    let learned : c.loop-learned.known + c.round-learned.result ≡ known next.wires.now - known from.wires.now = omega (arith, inv.learns, done.count) in
    let left : length next.wires.now - c.count_known.result ≡ length from.wires.now - known next.wires.now = omega (arith, as_many from next loans, c.count_known.ensures, known_by next.wires.now) in
    record {
      answer = (λ t. record { rounds = i + 1; firings = firings t; known = learned t; unknown = left t }) ∙ sym (ap (settled_answer d from.wires.now) is);
      after = sym (ap (λ r. r.wires) is);
      loans = record { diagram = loans.diagram; cells = loans.cells; wires = loans.wires };
    }
