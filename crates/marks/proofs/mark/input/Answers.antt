use Rattle.std.proofs.Common.{◌≡◌, Ok, Err, codes, sym, ap, ◌∙◌, rules}
use Rattle.std.specs.Str.{bytes_eq}
use Rattle.std.proofs.lemmas.Slice.Eq.{slice_eq-Decides, bytes_eq-Decides}
use Rattle.std.proofs.lemmas.Result.{err_from_is_err_and}
use Rattle.std.proofs.lemmas.Bool.Decides.{same_from_decides, Decides-eqb}
use Rattle.marks.proofs.InputLaws.{nothing_marked, absent_marked, number_marked}
use Rattle.marks.proofs.mark.input.Given.{Over}
use Rattle.marks.proofs.mark.input.Goals as goal
use Rattle.marks.proofs.mark.input.Goals.{After-eq, After-eq-2, After-branch-number}

-- what `==` answered is the definition's test
first : (g : Over) (c : After-eq g) → bytes_eq c.args.field.now (codes "?") ≡ c.eq.result
first g c = let f = c.args.field.now in same_from_decides (bytes_eq f (codes "?")) c.eq.result (bytes_eq-Decides f (codes "?")) (slice_eq-Decides Decides-eqb f (codes "?") _ (rw c.as_slice.ensures at c.eq.ensures))

second : (g : Over) (c : After-eq-2 g) → bytes_eq c.args.field.now (codes ".") ≡ c.eq-2.result
second g c = let f = c.args.field.now in same_from_decides (bytes_eq f (codes ".")) c.eq-2.result (bytes_eq-Decides f (codes ".")) (slice_eq-Decides Decides-eqb f (codes ".") _ (rw c.as_slice-2.ensures at c.eq-2.ensures))

pub returns-then-eq : goal.returns-then-eq
returns-then-eq g c = sym (nothing_marked g.V.Value.valued c.args.field.now (first g (goal.at.returns-then-eq g c).After-eq ∙ c.if-eq.true))

pub returns-then-eq-2 : goal.returns-then-eq-2
returns-then-eq-2 g c =
    sym (absent_marked g.V.Value.valued c.args.field.now (first g (goal.at.returns-then-eq-2 g c).After-eq ∙ c.if-eq.false) (second g (goal.at.returns-then-eq-2 g c).After-eq-2 ∙ c.if-eq-2.true))

pub returns-in_err-number : goal.returns-in_err-number
returns-in_err-number g c =
    let p = err_from_is_err_and c.from_residual.result c.from_residual.ensures.1 in
    p.1 ∙ ap Err p.2
    ∙ sym (number_marked g.V.Value.valued c.args.field.now (first g (goal.at.returns-in_err-number g c).After-eq ∙ c.if-eq.false) (second g (goal.at.returns-in_err-number g c).After-eq-2 ∙ c.if-eq-2.false) (Err c.in_err-number.field-0.0) (sym c.in_err-number.ensures.value))

pub returns : goal.returns
returns g c =
    let by = number_marked g.V.Value.valued c.args.field.now (first g (goal.at.returns g c).After-eq ∙ c.if-eq.false) (second g (goal.at.returns g c).After-eq-2 ∙ c.if-eq-2.false) (Ok c.in_ok-number.number) (sym c.in_ok-number.ensures.value) in
    search rules
