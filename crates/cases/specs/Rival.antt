-- A kit whose one kind, 17, is the constant 9.
use Rattle.std.specs.Prelude.{ℕ, List, [], ◌∷◌, ℤ, pos, refl, None, Some}
use Rattle.kit.specs.declared.signal.Signal.{Signal}
use Rattle.kit.specs.declared.signal.Signal.TheVariants.{Present}
use Rattle.kit.specs.declared.signal.Inputs.{Inputs}
use Rattle.kit.specs.Meaning.{Meaning, Monotone, Bounded}
use Rattle.kit.specs.Tables.{among, row, ports_in, unknown}
use Rattle.kit.proofs.Bounds.{table_bounded}
use Rattle.kit.proofs.Rising.{among_rises}

abbrev pub nine_fires : Inputs ℤ → Signal ℤ
nine_fires i = Present (pos 9)

abbrev pub rival_fires : List (ℕ × (Inputs ℤ → Signal ℤ))
rival_fires = (17, nine_fires) ∷ []

abbrev pub rival : Meaning ℤ
rival = record {
  ports = ports_in (row 17 0 1 ∷ []);
  start = λ kind parameter. among ((17, Some (pos 9)) ∷ []) None kind;
  fire = λ kind parameter cell port. among ((0, among rival_fires unknown kind) ∷ []) unknown port;
  next = λ kind parameter cell i. among ((17, Some (pos 9)) ∷ []) cell kind;
}

-- both laws
pub rival_monotone : Monotone rival
rival_monotone kind parameter cell port = among_rises ((0, among rival_fires unknown kind) ∷ []) (among_rises rival_fires (λ s t h. refl, tt) kind, tt) port

pub rival_bounded : Bounded rival
rival_bounded = table_bounded (row 17 0 1 ∷ []) refl
