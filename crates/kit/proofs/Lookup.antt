-- A look-up in a table is by the first row that has the kind.
use Rattle.std.proofs.Common.{◌≡◌, ℕ, Bool, true, false, refl, cond, eqb, List, [], ◌∷◌, None, Some, Option}
use Rattle.std.specs.List.{find}
use Rattle.kit.specs.declared.question.Ports.{Ports}
use Rattle.kit.specs.declared.table.KindPorts.{KindPorts}
use Rattle.kit.specs.Tables.{ports_in, no_ports}

abbrev pub counts : Option KindPorts → Ports
counts None = no_ports
counts (Some r) = record { inputs = r.inputs; outputs = r.outputs }

both : (b : Bool) (r : KindPorts) (o : Option KindPorts) (p : Ports) → counts o ≡ p → counts (cond b (Some r) o) ≡ cond b (record { inputs = r.inputs; outputs = r.outputs }) p
both true r o p h = refl
both false r o p h = h

pub by_first : (rows : List KindPorts) (kind : ℕ) → counts (find (λ r. eqb kind r.kind) rows) ≡ ports_in rows kind
by_first [] kind = refl
by_first (r ∷ rows) kind = both (eqb kind r.kind) r (find (λ q. eqb kind q.kind) rows) (ports_in rows kind) (by_first rows kind)
