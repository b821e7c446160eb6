-- Reading is the inverse of writing.
use Rattle.std.proofs.Common.{◌≡◌, ℕ, List, Ok, Result, ap, ◌∙◌, subst}
use Rattle.text.specs.declared.fault.Fault.{Fault}
use Rattle.text.specs.Results.{then}
use Rattle.text.proofs.ResultLaws.{same_ok, then_ok}
use Rattle.draft.specs.Drawings.{Drawing}
use Rattle.draft.specs.Reading.{draft_of}
use Rattle.draft.specs.Text.{text_of}
use Rattle.draft.proofs.TextLaws.{draft_only, draft_all}
use Rattle.diagram.specs.Reading.{checked, read_of, IsDiagram, ReadsExactly}
use Rattle.diagram.specs.Wiring.{wiring_of}
use Rattle.diagram.proofs.WiringLaws.{wired_only, wired_all}

pub read_from : (text : List ℕ) (r : Result Drawing Fault) → draft_of text ≡ r → read_of text ≡ then r checked
unfolding read_of
read_from text r h = ap (λ s. then s checked) h

pub reads_exactly : (text : List ℕ) → ReadsExactly text
unfolding read_of
reads_exactly text =
    record {
      only = λ d h.
          let t = then_ok (draft_of text) checked d h in
          let w = then_ok (wiring_of t.0) (λ _. Ok t.0) d t.2 in
          let same : t.0 ≡ d = same_ok w.2 in
          let drawn = draft_only text t.0 t.1 in
          subst (λ c. (text ≡ text_of c) × IsDiagram c) same (drawn.0, record { drawable = drawn.1; wired = wired_only t.0 w.0 w.1 });
      all = λ d is h.
          ap (λ s. then (draft_of s) checked) is ∙ ap (λ s. then s checked) (draft_all d h.drawable)
          ∙ ap (λ s. then s (λ _. Ok d)) (wired_all d h.drawable.inputs_among h.wired);
    }
