use Rattle.std.proofs.Common.{◌≡◌, ◌+◌, [], ◌∷◌, ◌++◌, take, decimal, sym, refl, ap, ◌∙◌}
use Rattle.std.proofs.Output.{writes_in_calls_nil, has_written_append, has_written_of_eq}
use Rattle.std.proofs.lemmas.List.{append_assoc, take_more, take_all, flat_map_more}
use Rattle.kit.specs.declared.signal.Signal.{Signal}
use Rattle.marks.specs.Marks.{shown_mark, shown_closed, shown_wires}
use Rattle.marks.proofs.report.ReportDisplay.fmt.Goals as goal

pub loop-wire-init : goal.loop-wire-init
loop-wire-init g c = λ plain. record { wrote = writes_in_calls_nil g.W.Write.write_str_gives c.write.new.self.writer; plain = plain }

pub loop-wire-preserved : goal.loop-wire-preserved
loop-wire-preserved g c = λ plain.
    let so_far = c.loop-wire.invariant plain in
    let put = c.in_ok-write-2.ensures.writes so_far.plain refl in
    let took = g.W.Write.write_str_gives in
    let num = g.V.Value.numbered in
    let ws = c.args.self.now.wires.now in
    let k = c.loop-wire.wire-index in
    let mark = λ (s : Signal g.row.V.Denot). 44 ∷ shown_mark num s in
    let s = c.wire-item.result in
    let grown : shown_wires num (take k ws) ++ mark s ≡ shown_wires num (take (k + 1) ws) =
    flat_map_more mark [] (take k ws) s ∙ ap (shown_wires num) (sym (take_more ws k s c.loop-wire-test.true ∙ ap (λ x. take k ws ++ x ∷ []) (sym c.wire-item.is))) in
    has_written_of_eq took c.write.new.self (shown_wires num (take k ws) ++ mark s) (shown_wires num (take (k + 1) ws)) c.write-in-loop-wire.new.self grown
    (has_written_append took c.write.new.self (shown_wires num (take k ws)) c.loop-wire.f (mark s) c.write-in-loop-wire.new.self so_far put)

pub returns-clause-writes : goal.returns-clause-writes
returns-clause-writes g c = λ plain _.
    let put = c.in_ok-write.ensures.writes plain refl in
    let rest = c.loop-wire.invariant put.plain in
    let took = g.W.Write.write_str_gives in
    let num = g.V.Value.numbered in
    let r = c.args.self.now in
    let ws = r.wires.now in
    let k = c.loop-wire.wire-index in
    let front = shown_closed r.closed ++ 44 ∷ decimal r.rounds in
    let whole : front ++ shown_wires num (take k ws) ≡ shown_closed r.closed ++ (44 ∷ (decimal r.rounds ++ shown_wires num ws)) =
    append_assoc (shown_closed r.closed) (44 ∷ decimal r.rounds) (shown_wires num (take k ws)) ∙ ap (λ xs. shown_closed r.closed ++ (44 ∷ (decimal r.rounds ++ shown_wires num xs))) (take_all k ws c.loop-wire-test.false) in
    has_written_of_eq took c.args.f.now (front ++ shown_wires num (take k ws)) (shown_closed r.closed ++ (44 ∷ (decimal r.rounds ++ shown_wires num ws))) c.loop-wire.f whole
    (has_written_append took c.args.f.now front c.write.new.self (shown_wires num (take k ws)) c.loop-wire.f put rest)
