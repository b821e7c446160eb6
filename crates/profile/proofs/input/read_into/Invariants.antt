use Rattle.std.proofs.Common.{◌≤◌, length, take}
use Rattle.std.specs.Io.KnownBytes.{Consumes}
use Rattle.profile.proofs.input.read_into.Given as goal

-- each turn brought a byte or more, and what came stands at the front
abbrev pub invariant-loop : goal.invariant-loop
invariant-loop g l = record {
  within : l.len ≤ length l.buffer;
  brought : l.counter ≤ l.len;
  bytes : Consumes (g.R.Read.remaining l.initial.from) (g.R.Read.remaining l.from) (take l.len l.buffer);
}
