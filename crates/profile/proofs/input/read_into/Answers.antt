-- What came so far stands at the front of the buffer.
use Rattle.std.proofs.Common.{◌≡◌, ℕ, ◌+◌, ◌-◌, ◌≤◌, List, [], ◌++◌, length, take, sym, ap, ◌∙◌, subst, arith, length-append, length-take-le}
use Rattle.std.proofs.Math.Seq.{take-append-add}
use Rattle.std.proofs.lemmas.List.{take-append-le, append-nil}
use borrow.Rule.Slice.PartMut.{put_mid, take_put, post_of}
use Rattle.std.specs.Io.KnownBytes.{Consumes}
use Rattle.std.proofs.KnownBytes.{Consumes-nil, Consumes-trans}
use Rattle.profile.proofs.input.read_into.Goals as goal

-- n bytes more, after the a bytes that came before
front_more : (a k n : ℕ) (xs ys : List ℕ) → a ≤ length xs → n ≤ length ys → take (a + n) (put_mid a k xs ys) ≡ take a xs ++ take n ys
front_more a k n xs ys h w =
    ap (λ z. take (z + n) (put_mid a k xs ys)) (sym (length-take-le a xs h))
    ∙ take-append-add (take a xs) (ys ++ post_of a k xs) n
    ∙ ap (λ z. take a xs ++ z) (take-append-le n ys (post_of a k xs) w)

pub loop-init : goal.loop-init
loop-init g c = record { within = omega arith; brought = omega arith; bytes = Consumes-nil (g.R.Read.remaining c.args.from.now) }

pub loop-preserved : goal.loop-preserved
loop-preserved g c =
    let r = g.R.Read.remaining in
    let len = c.loop.len in
    let n = c.in_ok-n.n in
    let k = length c.loop.buffer - len in
    let old = c.loop.buffer in
    let part = c.read.new.buf in
    let came : n ≤ length part = c.in_ok-n.ensures.bound.0 in
    let after = post_of len k old in
    let grown = front_more len k n old part c.loop.invariant.within came in
    record {
      within = omega (arith, came, length-append (take len old) (part ++ after), length-append part after, length-take-le len old c.loop.invariant.within);
      brought = omega arith;
      bytes = subst (Consumes (r c.args.from.now) (r c.read.new.self)) (sym grown)
          (Consumes-trans (r c.args.from.now) (r c.loop.from) (r c.read.new.self) (take len old) (take n part) c.loop.invariant.bytes c.in_ok-n.ensures.bytes.0);
    }

pub returns-after-loop-clause-bytes : goal.returns-after-loop-clause-bytes
returns-after-loop-clause-bytes g c = c.loop.invariant.bytes

pub returns-after-loop-clause-all : goal.returns-after-loop-clause-all
returns-after-loop-clause-all g c = λ h. absurd (omega (arith, c.loop.invariant.brought))

pub returns-then-n-eq0-clause-bytes : goal.returns-then-n-eq0-clause-bytes
returns-then-n-eq0-clause-bytes g c =
    let r = g.R.Read.remaining in
    let len = c.loop.len in
    let none : take c.in_ok-n.n c.read.new.buf ≡ [] = ap (λ n. take n c.read.new.buf) c.if-n-eq0.true in
    let kept = take_put len (length c.loop.buffer - len) c.loop.buffer c.read.new.buf c.loop.invariant.within in
    let whole = Consumes-trans (r c.args.from.now) (r c.loop.from) (r c.read.new.self) (take len c.loop.buffer) [] c.loop.invariant.bytes (subst (Consumes (r c.loop.from) (r c.read.new.self)) none c.in_ok-n.ensures.bytes.0) in
    subst (Consumes (r c.args.from.now) (r c.read.new.self)) (append-nil (take len c.loop.buffer) ∙ sym kept) whole
