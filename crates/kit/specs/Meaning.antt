-- What a kit means: its answers to the four questions, and the two laws.
use Rattle.std.specs.Prelude.{ℕ, ◌≤◌, Bool, not, ℤ, ◌==◌}
use Rattle.kit.specs.declared.signal.Signal.{Signal}
use Rattle.kit.specs.Cells.{Cell}
use Rattle.kit.specs.declared.signal.Inputs.{Inputs}
use Rattle.kit.specs.declared.question.Ports.{Ports}
use Rattle.kit.specs.Order.{◌⊑◌, ◌⊑ⁱ◌}

-- a kit's answers, by kind, parameter, cell, output port and inputs, as far as the question has them
pub record Meaning (V : Type 0) : Type 0 where
  pub ports : ℕ → Ports
  pub start : ℕ → ℤ → Cell V
  pub fire : ℕ → ℤ → Cell V → ℕ → Inputs V → Signal V
  pub next : ℕ → ℤ → Cell V → Inputs V → Cell V

-- a kit knows the kinds that have an output
abbrev pub knows : {V : Type 0} → Meaning V → ℕ → Bool
knows m kind = not ((m.ports kind).outputs == 0)

-- an answer that rises with the inputs: where each input is at most its counterpart, so is the answer
abbrev pub Rises : {V : Type 0} → (Inputs V → Signal V) → Type 0
Rises {V} answer = (s t : Inputs V) → s ⊑ⁱ t → answer s ⊑ answer t

-- law one: for one kind, parameter, cell and port, fire rises with the inputs
abbrev pub Monotone : {V : Type 0} → Meaning V → Type 0
Monotone {V} m = (kind : ℕ) (parameter : ℤ) (cell : Cell V) (port : ℕ) → Rises (m.fire kind parameter cell port)

-- law two: no kind has more than three inputs or two outputs
abbrev pub Bounded : {V : Type 0} → Meaning V → Type 0
Bounded m = (kind : ℕ) → ((m.ports kind).inputs ≤ 3) × ((m.ports kind).outputs ≤ 2)

-- a meaning that keeps both laws
pub record Lawful {V : Type 0} (m : Meaning V) : Type 0 where
  pub monotone : Monotone m
  pub bounded : Bounded m
