use Rattle.std.proofs.Common.{◌≡◌, Ok, Err, sym, refl, ap, ◌∙◌}
use Rattle.std.proofs.lemmas.Result.{err_from_is_err_and}
use Rattle.std.proofs.lemmas.Bool.{false≢true}
use Rattle.text.specs.Results.{mapped}
use Rattle.diagram.specs.Diagrams.{drawing}
use Rattle.diagram.specs.Reading.{read_of, after_read}
use Rattle.diagram.proofs.ReadLaws.{read_from, reads_exactly}
use Rattle.diagram.proofs.diagram.Diagram.read.Goals as goal

pub returns-in_err-draft : goal.returns-in_err-draft
returns-in_err-draft c =
    let text = c.args.text.now in
    let f = c.in_err-draft.field-0.0 in
    let p = err_from_is_err_and c.from_residual.result c.from_residual.ensures.1 in
    let is : read_of text ≡ Err f = read_from text (Err f) (sym c.in_err-draft.ensures) in
    record {
      answer = p.1 ∙ ap Err p.2 ∙ sym (ap (mapped (λ _. tt)) is);
      state = ap (after_read (drawing c.args.self.now)) (sym is);
      refused = λ _. refl;
      exactly = reads_exactly text;
    }

pub returns-in_err-self : goal.returns-in_err-self
returns-in_err-self c =
    let text = c.args.text.now in
    let f = c.in_err-self.field-0.0 in
    let p = err_from_is_err_and c.from_residual-in_err-self.result c.from_residual-in_err-self.ensures.1 in
    let is : read_of text ≡ Err f = read_from text _ (sym c.in_ok-draft.ensures) ∙ sym c.in_err-self.ensures in
    record {
      answer = p.1 ∙ ap Err p.2 ∙ sym (ap (mapped (λ _. tt)) is);
      state = ap (after_read (drawing c.args.self.now)) (sym is);
      refused = λ _. refl;
      exactly = reads_exactly text;
    }

pub returns : goal.returns
returns c =
    let text = c.args.text.now in
    let is : read_of text ≡ Ok (drawing c.in_ok-self.field-0) = read_from text _ (sym c.in_ok-draft.ensures) ∙ sym c.in_ok-self.ensures in
    record {
      answer = sym (ap (mapped (λ _. tt)) is);
      state = ap (after_read (drawing c.args.self.now)) (sym is);
      refused = λ h. absurd (false≢true h);
      exactly = reads_exactly text;
    }
