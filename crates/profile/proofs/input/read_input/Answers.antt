-- What `truncate` keeps of the buffer is what was read. (Told step by step, so that no tactic writes out 65,537 zeros.)
use Rattle.std.proofs.Common.{◌≡◌, ℕ, List, length, take, drop, sym, ap, ◌∙◌, subst, arith}
use Rattle.std.proofs.lemmas.List.{take_at}
use Rattle.std.specs.Io.KnownBytes.{Consumes}
use Rattle.profile.proofs.input.read_input.Goals as goal

pub returns-clause-bytes : goal.returns-clause-bytes
returns-clause-bytes g c =
    let r = g.R.Read.remaining in
    let filled = c.read_into.new.buffer in
    let long : length filled ≡ c.in_ok-input.input.len = omega (arith, c.deref_mut.ensures.len, c.read_into.auto.buffer) in
    let kept : c.truncate.new.self.items ≡ take c.in_ok-len.len filled = c.truncate.ensures.items ∙ ap (take c.in_ok-len.len) (take_at filled (drop (length filled) c.in_ok-input.input.items) c.in_ok-input.input.len long) in
    subst (Consumes (r c.args.from.now) (r c.read_into.new.from)) (sym {A = List ℕ} kept) c.in_ok-len.ensures.bytes

pub returns-clause-all : goal.returns-clause-all
returns-clause-all g c =
    λ h. c.in_ok-len.ensures.all (omega (arith, h, c.truncate.ensures.len, c.in_ok-len.ensures.within, c.deref_mut.ensures.len, c.in_ok-input.ensures.len))
