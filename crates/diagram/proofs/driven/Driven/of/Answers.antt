use Rattle.std.proofs.Common.{◌≡◌, ℕ, ◌+◌, List, [], ◌∷◌, get_or, drop, Ok, Err, Result, sym, ap, ◌∙◌}
use Rattle.std.specs.FinSet.{from_list, insert}
use Rattle.std.proofs.lemmas.List.{at_drop_more}
use Rattle.std.proofs.lemmas.Result.{err_from_is_err_and}
use Rattle.text.specs.declared.fault.Fault.{Fault}
use Rattle.text.specs.Results.{then, mapped}
use Rattle.draft.specs.declared.block.OutPorts.{OutPorts}
use Rattle.draft.specs.declared.block.OutPorts.TheVariants.{One as OneOut, Two as TwoOut}
use Rattle.draft.specs.Drawings.{blank}
use Rattle.diagram.specs.Wiring.{outs, driven_by, driven_in}
use Rattle.diagram.proofs.MarkLaws.{one_driven}
use Rattle.diagram.proofs.driven.Driven.of.Goals as goal
use Rattle.diagram.proofs.driven.Driven.of.Goals.{In-loop-k, in-One+in_ok-drive-in-One, in-Two+in_ok-drive-in-Two+in_ok-drive-in-Two-2}

-- the blocks from k on: block k, then the others
abbrev on : (c : In-loop-k) → Result (List ℕ) Fault → Result (List ℕ) Fault
on c r = then r (λ more. driven_in (c.loop-k.k + 1) more (drop (c.loop-k.k + 1) c.args.blocks.now))

step : (c : In-loop-k) (ports : OutPorts) → (get_or c.args.blocks.now c.loop-k.k blank).outputs ≡ ports → driven_in 0 [] c.args.blocks.now ≡ on c (driven_by c.loop-k.k c.loop-k.invariant.0 (outs ports))
step c ports is =
    sym c.loop-k.invariant.1 ∙ at_drop_more (driven_in c.loop-k.k c.loop-k.invariant.0) c.args.blocks.now c.loop-k.k blank c.loop-k-test.true
    ∙ ap (λ p. on c (driven_by c.loop-k.k c.loop-k.invariant.0 (outs p))) is

pub returns-in_err-drive-in-One : goal.returns-in_err-drive-in-One
returns-in_err-drive-in-One c =
    let at = (goal.at.returns-in_err-drive-in-One c).In-loop-k in
    let ws = c.loop-k.invariant.0 in
    let first = one_driven c.loop-k.k c.in-One.p ws [] c.loop-k.driven c.drive.result c.loop-k.invariant.2 c.drive.ensures.answer in
    let told = step at (OneOut c.in-One.p) c.in-One.is ∙ ap (on at) (first ∙ ap (λ r. then r (λ _. Ok (c.in-One.p ∷ ws))) c.in_err-drive-in-One.was) in
    let p = err_from_is_err_and c.from_residual.result c.from_residual.ensures.1 in
    p.1 ∙ ap Err p.2 ∙ sym (ap (mapped from_list) told)

pub returns-in_err-drive-in-Two : goal.returns-in_err-drive-in-Two
returns-in_err-drive-in-Two c =
    let at = (goal.at.returns-in_err-drive-in-Two c).In-loop-k in
    let ws = c.loop-k.invariant.0 in
    let first = one_driven c.loop-k.k c.in-Two.p ws (c.in-Two.q ∷ []) c.loop-k.driven c.drive-in-Two.result c.loop-k.invariant.2 c.drive-in-Two.ensures.answer in
    let told = step at (TwoOut c.in-Two.p c.in-Two.q) c.in-Two.is ∙ ap (on at) (first ∙ ap (λ r. then r (λ _. driven_by c.loop-k.k (c.in-Two.p ∷ ws) (c.in-Two.q ∷ []))) c.in_err-drive-in-Two.was) in
    let p = err_from_is_err_and c.from_residual-in_err-drive-in-Two.result c.from_residual-in_err-drive-in-Two.ensures.1 in
    p.1 ∙ ap Err p.2 ∙ sym (ap (mapped from_list) told)

pub returns-in_err-drive-in-Two-2 : goal.returns-in_err-drive-in-Two-2
returns-in_err-drive-in-Two-2 c =
    let at = (goal.at.returns-in_err-drive-in-Two-2 c).In-loop-k in
    let ws = c.loop-k.invariant.0 in
    let first = one_driven c.loop-k.k c.in-Two.p ws (c.in-Two.q ∷ []) c.loop-k.driven c.drive-in-Two.result c.loop-k.invariant.2 c.drive-in-Two.ensures.answer in
    let one_more = c.in_ok-drive-in-Two.ensures.state ∙ ap (λ s. insert s c.in-Two.p) c.loop-k.invariant.2 in
    let second = one_driven c.loop-k.k c.in-Two.q (c.in-Two.p ∷ ws) [] c.drive-in-Two.new.self c.drive-in-Two-2.result one_more c.drive-in-Two-2.ensures.answer in
    let both =
    first ∙ ap (λ r. then r (λ _. driven_by c.loop-k.k (c.in-Two.p ∷ ws) (c.in-Two.q ∷ []))) c.in_ok-drive-in-Two.was
    ∙ second ∙ ap (λ r. then r (λ _. Ok (c.in-Two.q ∷ c.in-Two.p ∷ ws))) c.in_err-drive-in-Two-2.was
    in
    let told = step at (TwoOut c.in-Two.p c.in-Two.q) c.in-Two.is ∙ ap (on at) both in
    let p = err_from_is_err_and c.from_residual-in_err-drive-in-Two-2.result c.from_residual-in_err-drive-in-Two-2.ensures.1 in
    p.1 ∙ ap Err p.2 ∙ sym (ap (mapped from_list) told)

pub loop-k-preserved : goal.loop-k-preserved
loop-k-preserved c =
    let at = (goal.at.loop-k-preserved c).In-loop-k in
    let k = c.loop-k.k in
    let ws = c.loop-k.invariant.0 in
    elim c.match-block.branch [
      | in-One+in_ok-drive-in-One w ↦
          let p = w.in-One.p in
          let first = one_driven k p ws [] c.loop-k.driven w.drive.result c.loop-k.invariant.2 w.drive.ensures.answer in
          let told = step at (OneOut p) w.in-One.is ∙ ap (on at) (first ∙ ap (λ r. then r (λ _. Ok (p ∷ ws))) w.in_ok-drive-in-One.was) in
          (p ∷ ws, sym told, w.driven-is ∙ w.in_ok-drive-in-One.ensures.state ∙ ap (λ s. insert s p) c.loop-k.invariant.2)
      | in-Two+in_ok-drive-in-Two+in_ok-drive-in-Two-2 w ↦
          let p = w.in-Two.p in
          let q = w.in-Two.q in
          let first = one_driven k p ws (q ∷ []) c.loop-k.driven w.drive-in-Two.result c.loop-k.invariant.2 w.drive-in-Two.ensures.answer in
          let one_more = w.in_ok-drive-in-Two.ensures.state ∙ ap (λ s. insert s p) c.loop-k.invariant.2 in
          let second = one_driven k q (p ∷ ws) [] w.drive-in-Two.new.self w.drive-in-Two-2.result one_more w.drive-in-Two-2.ensures.answer in
          let both =
          first ∙ ap (λ r. then r (λ _. driven_by k (p ∷ ws) (q ∷ []))) w.in_ok-drive-in-Two.was
          ∙ second ∙ ap (λ r. then r (λ _. Ok (q ∷ p ∷ ws))) w.in_ok-drive-in-Two-2.was
          in
          (q ∷ p ∷ ws, sym (step at (TwoOut p q) w.in-Two.is ∙ ap (on at) both), w.driven-is ∙ w.in_ok-drive-in-Two-2.ensures.state ∙ ap (λ s. insert s q) one_more)
    ]
