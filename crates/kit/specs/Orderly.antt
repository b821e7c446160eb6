-- What the kits of this shop keep beside the two laws.
use Rattle.std.specs.Prelude.{◌≡◌, ℕ, ◌<◌, ◌≤◌, ◌⊎◌, ℤ, None}
use Rattle.kit.specs.declared.signal.Signal.TheVariants.{Unknown}
use Rattle.kit.specs.Cells.{Cell}
use Rattle.kit.specs.declared.signal.Inputs.{Inputs}
use Rattle.kit.specs.Meaning.{Meaning}

-- one of the first n inputs is unknown
abbrev pub UnknownInput : {V : Type 0} → ℕ → Inputs V → Type 0
UnknownInput n i = ((0 < n) × (i.a ≡ Unknown)) ⊎ (((1 < n) × (i.b ≡ Unknown)) ⊎ ((2 < n) × (i.c ≡ Unknown)))

-- the kit keeps to its kinds, their ports and their inputs
pub record Orderly {V : Type 0} (m : Meaning V) : Type 0 where
  -- a kind without outputs, which the kit does not know, has no inputs either, and starts empty
  pub no_inputs : (kind : ℕ) → (m.ports kind).outputs ≡ 0 → (m.ports kind).inputs ≡ 0
  pub starts_empty : (kind : ℕ) (parameter : ℤ) → (m.ports kind).outputs ≡ 0 → m.start kind parameter ≡ None
  -- its cell stays
  pub cell_stays : (kind : ℕ) (parameter : ℤ) (cell : Cell V) (i : Inputs V) → (m.ports kind).outputs ≡ 0 → m.next kind parameter cell i ≡ cell
  -- a port that a kind lacks fires unknown
  pub no_port : (kind : ℕ) (parameter : ℤ) (cell : Cell V) (port : ℕ) (i : Inputs V) → (m.ports kind).outputs ≤ port → m.fire kind parameter cell port i ≡ Unknown
  -- an unknown signal on an input that the kind has leaves the cell
  pub no_input : (kind : ℕ) (parameter : ℤ) (cell : Cell V) (i : Inputs V) → UnknownInput (m.ports kind).inputs i → m.next kind parameter cell i ≡ cell
