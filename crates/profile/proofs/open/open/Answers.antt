use Rattle.std.proofs.Common.{◌≡◌, leb, ◌++◌, length, take, drop, Ok, Err, Result, sym, ap, ◌∙◌}
use Rattle.std.proofs.lemmas.List.{take_at}
use Rattle.std.proofs.lemmas.Bool.{cond-true}
use Rattle.text.specs.declared.fault.Cause.TheVariants.{LongInput, ShortBuffer}
use Rattle.text.specs.declared.fault.Fault.{Fault}
use Rattle.text.specs.Results.{then, fault}
use Rattle.text.proofs.ResultLaws.{mapped_ok, passed}
use Rattle.draft.specs.Drawings.{Drawing}
use Rattle.draft.specs.Text.{text_of}
use Rattle.diagram.specs.Diagrams.{drawing}
use Rattle.diagram.specs.Reading.{read_of, after_read}
use Rattle.diagram.specs.Writing.{write_answer}
use Rattle.profile.specs.declared.open.Report.{Report}
use Rattle.profile.specs.Opening.{most_bytes, report_of, opened, written_back}
use Rattle.profile.proofs.open.open.Goals as goal

pub returns : goal.returns
returns c =
    let input = c.args.input.now in
    let back = c.args.back.now in
    let d = drawing c.read.new.self in
    let m = mapped_ok (λ _. tt) (read_of input) tt (sym c.in_ok-read.ensures.answer) in
    let same : d ≡ m.0 = c.in_ok-read.ensures.state ∙ ap (after_read _) m.1 in
    let is : read_of input ≡ Ok d = m.1 ∙ ap Ok (sym same) in
    let fits = (passed (leb (length input) most_bytes) (Ok tt) (fault LongInput 0 0) tt (sym c.in_ok-within_limit.ensures)).0 in
    let wrote = c.in_ok-length.ensures in
    let text : input ≡ text_of d = (c.in_ok-read.ensures.exactly.only d is).0 in
    let enough = (passed (leb (length (text_of d)) (length back)) (Ok (length (text_of d))) (fault ShortBuffer (length (text_of d)) (length back)) _ (sym wrote.answer)).0 in
    let t = text_of d in
    let n = c.in_ok-length.length in
    let report : Result Drawing Fault → Result Report Fault = λ r. then r (λ e. then (write_answer (text_of e) back) (λ m. Ok (report_of e m))) in
    let whole : opened input back ≡ Ok (report_of d n) =
    cond-true (leb (length input) most_bytes) (report (read_of input)) (Err (fault LongInput 0 0)) fits ∙ ap report is ∙ ap (λ r. then r (λ m. Ok (report_of d m))) (sym wrote.answer)
    in
    record {
      answer = (λ i. Ok (record { inputs = (c.from.ensures ∙ c.inputs.ensures) i; wires = (c.from-2.ensures ∙ c.wires.ensures) i; blocks = length (c.blocks-2.ensures i); length = n })) ∙ sym whole;
      bytes = wrote.bytes ∙ sym (cond-true (leb (length input) most_bytes) (written_back (read_of input) back) back fits ∙ ap (λ r. written_back r back) is);
      same = λ _.
          ap (take (length input)) (wrote.bytes ∙ cond-true (leb (length t) (length back)) (t ++ drop (length t) back) back enough)
          ∙ take_at t (drop (length t) back) (length input) (ap length (sym text)) ∙ sym text;
    }
