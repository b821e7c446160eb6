-- A table of kinds keeps law two if each of its rows does.
use Rattle.std.proofs.Common.{◌≡◌, ℕ, ◌≤◌, Bool, true, ◌&&◌, eqb, nat_le, List, [], ◌∷◌, arith}
use Rattle.std.proofs.lemmas.Bool.{and_parts, leb-true, cond_both}
use Rattle.kit.specs.declared.question.Ports.{Ports}
use Rattle.kit.specs.declared.table.KindPorts.{KindPorts}
use Rattle.kit.specs.Tables.{ports_in}

-- no row has more than three inputs or two outputs
abbrev pub few_ports : List KindPorts → Bool
few_ports [] = true
few_ports (r ∷ rows) = nat_le r.inputs 3 && nat_le r.outputs 2 && few_ports rows

abbrev pub Few : Ports → Type 0
Few p = (p.inputs ≤ 3) × (p.outputs ≤ 2)

pub table_bounded : (rows : List KindPorts) → few_ports rows ≡ true → (kind : ℕ) → Few (ports_in rows kind)
table_bounded [] h kind = (omega arith, omega arith)
table_bounded (r ∷ rows) h kind =
    let parts = and_parts (nat_le r.inputs 3 && nat_le r.outputs 2) (few_ports rows) h in
    let here = and_parts (nat_le r.inputs 3) (nat_le r.outputs 2) parts.0 in
    cond_both (eqb kind r.kind) (record { inputs = r.inputs; outputs = r.outputs }) (ports_in rows kind) Few
    (λ _. (leb-true r.inputs 3 here.0, leb-true r.outputs 2 here.1)) (λ _. table_bounded rows parts.1 kind)
