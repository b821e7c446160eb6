-- Each field of a line is read as what it writes, and as nothing else.
use Rattle.std.proofs.Common.{◌≡◌, ℕ, ◌^◌, ◌<◌, ◌≤◌, cond, eqb, leb, List, [], ◌∷◌, length, get_or, Some, None, Ok, Err, decimal, Option, Result, sym, refl, ap, ◌∙◌, subst, ⊎_elim, arith}
use Rattle.std.specs.Str.{bytes_eq}
use Rattle.std.proofs.lemmas.Fmt.{decimal_nonempty}
use Rattle.std.proofs.lemmas.Slice.Eq.{bytes_eq-Decides}
use Rattle.std.proofs.lemmas.List.{nil_from_length}
use Rattle.std.proofs.lemmas.Bool.{eqb-true, ne_eqb, cond-true, cond-false, cases_Bool, le-leb}
use Rattle.text.specs.declared.fault.Cause.{Cause}
use Rattle.text.specs.declared.fault.Cause.TheVariants.{Form, Range}
use Rattle.text.specs.declared.fault.Fault.{Fault}
use Rattle.text.specs.Numerals.{number_in}
use Rattle.text.specs.Pieces.{field}
use Rattle.text.specs.Results.{then, mapped, placed}
use Rattle.text.specs.Walk.{word_in, empty_in}
use Rattle.text.proofs.NumberLaws.{number_only, number_all}
use Rattle.text.proofs.ResultLaws.{same_ok, then_ok, mapped_ok, placed_ok, passed}
use Rattle.draft.specs.declared.block.InPorts.{InPorts}
use Rattle.draft.specs.declared.block.InPorts.TheVariants.{Zero, One as OneIn, Two as TwoIn, Three}
use Rattle.draft.specs.declared.block.OutPorts.{OutPorts}
use Rattle.draft.specs.declared.block.OutPorts.TheVariants.{One as OneOut, Two as TwoOut}
use Rattle.draft.specs.Limits.{last_wire, last_kind}
use Rattle.draft.specs.Lines.{kind_in, wire_in, port_in, third_input, second_input, no_input, in_ports, out_ports, size_in}
use Rattle.draft.specs.Text.{in_fields, out_fields, InsLegible, OutsLegible}

pub word_only : (word f : List ℕ) (u : Unit {0}) → word_in word f ≡ Ok u → f ≡ word
unfolding word_in
word_only word f u h = (bytes_eq-Decides f word).0 (passed (bytes_eq f word) (Ok tt) Form u h).0

pub word_all : (word : List ℕ) → word_in word word ≡ Ok tt
unfolding word_in
word_all word = cond-true (bytes_eq word word) (Ok tt) (Err Form) ((bytes_eq-Decides word word).1 refl)

pub empty_only : (f : List ℕ) (u : Unit {0}) → empty_in f ≡ Ok u → f ≡ []
unfolding empty_in
empty_only f u h = nil_from_length f (eqb-true (length f) 0 (passed (eqb (length f) 0) (Ok tt) Form u h).0)

pub empty_all : empty_in [] ≡ Ok tt
unfolding empty_in
empty_all = refl

pub wire_only : (f : List ℕ) (w : ℕ) → wire_in f ≡ Ok w → (f ≡ decimal w) × (w ≤ last_wire)
unfolding wire_in
wire_only f w h = number_only last_wire f w (omega arith) h

pub wire_all : (w : ℕ) → w ≤ last_wire → wire_in (decimal w) ≡ Ok w
unfolding wire_in
wire_all w h = number_all last_wire w (omega arith) h

pub kind_only : (f : List ℕ) (n : ℕ) → kind_in f ≡ Ok n → (f ≡ decimal n) × (n ≤ last_kind)
unfolding kind_in
kind_only f n h = number_only last_kind f n (omega arith) h

pub kind_all : (n : ℕ) → n ≤ last_kind → kind_in (decimal n) ≡ Ok n
unfolding kind_in
kind_all n h = number_all last_kind n (omega arith) h

pub size_only : (least most : ℕ) (f : List ℕ) (n : ℕ) → most < 2 ^ 64 → size_in least most f ≡ Ok n → f ≡ decimal n
unfolding size_in
size_only least most f n small h =
    let m = then_ok (number_in most f) _ n h in
    (number_only most f m.0 small m.1).0 ∙ ap decimal (same_ok (passed (leb least m.0) _ Range n m.2).1)

pub size_all : (least most n : ℕ) → most < 2 ^ 64 → least ≤ n → n ≤ most → size_in least most (decimal n) ≡ Ok n
unfolding size_in
size_all least most n small low high = ap (λ r. then r (λ k. cond (leb least k) (Ok k) (Err Range))) (number_all most n small high) ∙ cond-true (leb least n) (Ok n) (Err Range) (le-leb least n low)

-- what a port's field says
abbrev pub Port : Option ℕ → List ℕ → Type 0
Port None f = f ≡ []
Port (Some w) f = (f ≡ decimal w) × (w ≤ last_wire)

pub port_only : (f : List ℕ) (p : Option ℕ) → port_in f ≡ Ok p → Port p f
unfolding port_in
port_only f p =
    ⊎_elim
    (λ t h. subst (λ q. Port q f) (same_ok (sym (cond-true (eqb (length f) 0) (Ok None) (mapped Some (wire_in f)) t) ∙ h)) (nil_from_length f (eqb-true (length f) 0 t)))
    (λ t h.
    let m = mapped_ok Some (wire_in f) p (sym (cond-false (eqb (length f) 0) (Ok None) (mapped Some (wire_in f)) t) ∙ h) in
    subst (λ q. Port q f) m.2 (wire_only f m.0 m.1))
    (cases_Bool (eqb (length f) 0))

pub port_all : (p : Option ℕ) (f : List ℕ) → Port p f → port_in f ≡ Ok p
unfolding port_in
port_all None f h = ap (λ g. cond (eqb (length g) 0) (Ok None) (mapped Some (wire_in g))) h
port_all (Some w) f h =
    let some : length f ≡ 0 → ⊥ = λ z. absurd (omega (arith, ap length h.0, decimal_nonempty w (omega (arith, h.1)))) in
    cond-false (eqb (length f) 0) (Ok None) (mapped Some (wire_in f)) (ne_eqb (length f) 0 some) ∙ ap (mapped Some) (ap wire_in h.0 ∙ wire_all w h.1)

-- three fields, one by one
three : (a b c a' b' c' : List ℕ) → a ≡ a' → b ≡ b' → c ≡ c' → a ∷ b ∷ c ∷ [] ≡ a' ∷ b' ∷ c' ∷ []
three a b c a' b' c' p q r = λ i. p i ∷ q i ∷ r i ∷ []

abbrev pub in_three : List (List ℕ) → List (List ℕ)
in_three fs = field fs 3 ∷ field fs 4 ∷ field fs 5 ∷ []

-- p is what the three fields say
abbrev pub SaysIns : List (List ℕ) → InPorts → Type 0
SaysIns fs p = (in_three fs ≡ in_fields p) × InsLegible p

third_only : (k : ℕ) (fs : List (List ℕ)) (a b : ℕ) (p : InPorts) → Port (Some a) (field fs 3) → Port (Some b) (field fs 4) → third_input k fs a b ≡ Ok p → SaysIns fs p
third_only k fs a b p pa pb h =
    let t = then_ok (placed k 6 (port_in (field fs 5))) _ p h in
    by_case t.0 (port_only (field fs 5) t.0 (placed_ok k 6 _ t.0 t.1)) t.2
  where
    by_case : (c : Option ℕ) → Port c (field fs 5) → ◌≡◌ {A = Result InPorts Fault} (elim c [ None ↦ Ok (TwoIn a b) | Some wire ↦ Ok (Three a b wire) ]) (Ok p) → SaysIns fs p
    by_case None pc e = subst (SaysIns fs) (same_ok e) (three _ _ _ _ _ _ pa.0 pb.0 pc, (pa.1, pb.1))
    by_case (Some c) pc e = subst (SaysIns fs) (same_ok e) (three _ _ _ _ _ _ pa.0 pb.0 pc.0, (pa.1, pb.1, pc.1))

second_only : (k : ℕ) (fs : List (List ℕ)) (a : ℕ) (p : InPorts) → Port (Some a) (field fs 3) → second_input k fs a ≡ Ok p → SaysIns fs p
second_only k fs a p pa h =
    let t = then_ok (placed k 5 (port_in (field fs 4))) _ p h in
    by_case t.0 (port_only (field fs 4) t.0 (placed_ok k 5 _ t.0 t.1)) t.2
  where
    by_case : (b : Option ℕ) → Port b (field fs 4) → ◌≡◌ {A = Result InPorts Fault} (elim b [ None ↦ then (placed k 6 (empty_in (field fs 5))) (λ _. Ok (OneIn a)) | Some wire ↦ third_input k fs a wire ]) (Ok p) → SaysIns fs p
    by_case None pb e =
        let t = then_ok (placed k 6 (empty_in (field fs 5))) _ p e in
        subst (SaysIns fs) (same_ok t.2) (three _ _ _ _ _ _ pa.0 pb (empty_only (field fs 5) t.0 (placed_ok k 6 _ t.0 t.1)), pa.1)
    by_case (Some b) pb e = third_only k fs a b p pa pb e

none_only : (k : ℕ) (fs : List (List ℕ)) (p : InPorts) → field fs 3 ≡ [] → no_input k fs ≡ Ok p → SaysIns fs p
none_only k fs p none h =
    let b = then_ok (placed k 5 (empty_in (field fs 4))) _ p h in
    let c = then_ok (placed k 6 (empty_in (field fs 5))) _ p b.2 in
    subst (SaysIns fs) (same_ok c.2) (three _ _ _ _ _ _ none (empty_only (field fs 4) b.0 (placed_ok k 5 _ b.0 b.1)) (empty_only (field fs 5) c.0 (placed_ok k 6 _ c.0 c.1)), tt)

pub ins_only : (k : ℕ) (fs : List (List ℕ)) (p : InPorts) → in_ports k fs ≡ Ok p → SaysIns fs p
unfolding in_ports
ins_only k fs p h =
    let t = then_ok (placed k 4 (port_in (field fs 3))) _ p h in
    by_case t.0 (port_only (field fs 3) t.0 (placed_ok k 4 _ t.0 t.1)) t.2
  where
    by_case : (a : Option ℕ) → Port a (field fs 3) → ◌≡◌ {A = Result InPorts Fault} (elim a [ None ↦ no_input k fs | Some wire ↦ second_input k fs wire ]) (Ok p) → SaysIns fs p
    by_case None pa e = none_only k fs p pa e
    by_case (Some a) pa e = second_only k fs a p pa e

-- a reading in its place goes on with what was read
pub goes_on : {A B : Type 0} (m n : ℕ) (r : Result A Cause) (x : A) (g : A → Result B Fault) → r ≡ Ok x → then (placed m n r) g ≡ g x
goes_on m n r x g h = ap (λ s. then (placed m n s) g) h

at_field : (fs : List (List ℕ)) (x y z : List ℕ) → in_three fs ≡ x ∷ y ∷ z ∷ [] → (field fs 3 ≡ x) × (field fs 4 ≡ y) × (field fs 5 ≡ z)
at_field fs x y z h = (ap (λ l. get_or l 0 []) h, ap (λ l. get_or l 1 []) h, ap (λ l. get_or l 2 []) h)

pub ins_all : (k : ℕ) (fs : List (List ℕ)) (p : InPorts) → SaysIns fs p → in_ports k fs ≡ Ok p
unfolding in_ports
ins_all k fs Zero (h, l) =
    let e = at_field fs [] [] [] h in
    goes_on k 4 _ None _ (port_all None _ e.0) ∙ goes_on k 5 _ tt _ (ap empty_in e.1 ∙ empty_all) ∙ goes_on k 6 _ tt _ (ap empty_in e.2 ∙ empty_all)
ins_all k fs (OneIn a) (h, l) =
    let e = at_field fs (decimal a) [] [] h in
    goes_on k 4 _ (Some a) _ (port_all (Some a) _ (e.0, l)) ∙ goes_on k 5 _ None _ (port_all None _ e.1) ∙ goes_on k 6 _ tt _ (ap empty_in e.2 ∙ empty_all)
ins_all k fs (TwoIn a b) (h, l) =
    let e = at_field fs (decimal a) (decimal b) [] h in
    goes_on k 4 _ (Some a) _ (port_all (Some a) _ (e.0, l.0)) ∙ goes_on k 5 _ (Some b) _ (port_all (Some b) _ (e.1, l.1)) ∙ goes_on k 6 _ None _ (port_all None _ e.2)
ins_all k fs (Three a b c) (h, l) =
    let e = at_field fs (decimal a) (decimal b) (decimal c) h in
    goes_on k 4 _ (Some a) _ (port_all (Some a) _ (e.0, l.0)) ∙ goes_on k 5 _ (Some b) _ (port_all (Some b) _ (e.1, l.1)) ∙ goes_on k 6 _ (Some c) _ (port_all (Some c) _ (e.2, l.2))

-- p is what the two output fields say
abbrev pub SaysOuts : List (List ℕ) → OutPorts → Type 0
SaysOuts fs p = (◌≡◌ {A = List (List ℕ)} (field fs 6 ∷ field fs 7 ∷ []) (out_fields p)) × OutsLegible p

pub outs_only : (k : ℕ) (fs : List (List ℕ)) (p : OutPorts) → out_ports k fs ≡ Ok p → SaysOuts fs p
unfolding out_ports
outs_only k fs p h =
    let f = then_ok (placed k 7 (wire_in (field fs 6))) _ p h in
    let s = then_ok (placed k 8 (port_in (field fs 7))) _ p f.2 in
    by_case f.0 (wire_only (field fs 6) f.0 (placed_ok k 7 _ f.0 f.1)) s.0 (port_only (field fs 7) s.0 (placed_ok k 8 _ s.0 s.1)) s.2
  where
    by_case : (a : ℕ) → (field fs 6 ≡ decimal a) × (a ≤ last_wire) → (q : Option ℕ) → Port q (field fs 7) → ◌≡◌ {A = Result OutPorts Fault} (elim q [ None ↦ Ok (OneOut a) | Some wq ↦ Ok (TwoOut a wq) ]) (Ok p) → SaysOuts fs p
    by_case a pa None pq e = subst (SaysOuts fs) (same_ok e) (λ i. pa.0 i ∷ pq i ∷ [], pa.1)
    by_case a pa (Some q) pq e = subst (SaysOuts fs) (same_ok e) (λ i. pa.0 i ∷ pq.0 i ∷ [], (pa.1, pq.1))

pub outs_all : (k : ℕ) (fs : List (List ℕ)) (p : OutPorts) → SaysOuts fs p → out_ports k fs ≡ Ok p
unfolding out_ports
outs_all k fs (OneOut a) (h, l) =
    goes_on k 7 _ a _ (ap wire_in (ap (λ x. get_or x 0 []) h) ∙ wire_all a l) ∙ goes_on k 8 _ None _ (port_all None _ (ap (λ x. get_or x 1 []) h))
outs_all k fs (TwoOut a q) (h, l) =
    goes_on k 7 _ a _ (ap wire_in (ap (λ x. get_or x 0 []) h) ∙ wire_all a l.0) ∙ goes_on k 8 _ (Some q) _ (port_all (Some q) _ (ap (λ x. get_or x 1 []) h, l.1))
