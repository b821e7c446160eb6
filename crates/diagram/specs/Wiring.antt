-- The wiring of a drawing: which wires its ports read and drive, and the fault of a drawing that is not wired.
use Rattle.std.specs.Prelude.{◌≡◌, ℕ, zero, suc, ◌+◌, ◌-◌, ◌<◌, ◌≤◌, cond, ◌&&◌, List, [], ◌∷◌, length, Ok, Err, Result, ◌==◌, nat_le, nat_lt}
use Rattle.std.specs.List.{flat_map}
use Rattle.text.specs.declared.fault.Cause.TheVariants.{PortOutside, DrivenTwice, NotDriven}
use Rattle.text.specs.declared.fault.Fault.{Fault}
use Rattle.text.specs.Results.{then, fault}
use Rattle.draft.specs.declared.block.Block.{Block}
use Rattle.draft.specs.declared.block.InPorts.{InPorts}
use Rattle.draft.specs.declared.block.InPorts.TheVariants.{Zero, One as OneIn, Two as TwoIn, Three}
use Rattle.draft.specs.declared.block.OutPorts.{OutPorts}
use Rattle.draft.specs.declared.block.OutPorts.TheVariants.{One as OneOut, Two as TwoOut}
use Rattle.draft.specs.Drawings.{Drawing}

-- the wires at the ports, from the left
abbrev pub ins : InPorts → List ℕ
ins Zero = []
ins (OneIn a) = a ∷ []
ins (TwoIn a b) = a ∷ b ∷ []
ins (Three a b c) = a ∷ b ∷ c ∷ []

abbrev pub outs : OutPorts → List ℕ
outs (OneOut p) = p ∷ []
outs (TwoOut p q) = p ∷ q ∷ []

-- how often a wire stands in a list
abbrev pub times : ℕ → List ℕ → ℕ
times w [] = 0
times w (x ∷ xs) = cond (x == w) 1 0 + times w xs

-- how many input ports read the wire, and how many output ports drive it
abbrev pub readers : ℕ → List Block → ℕ
readers w bs = times w (flat_map (λ b. ins b.inputs) bs)

abbrev pub drivers : ℕ → List Block → ℕ
drivers w bs = times w (flat_map (λ b. outs b.outputs) bs)

-- The three properties of a diagram. Its input ports name wires below W:
abbrev pub ReadsBelow : Drawing → Type 0
ReadsBelow d = (w : ℕ) → d.wires ≤ w → readers w d.blocks ≡ 0

-- its output ports name wires from E to W - 1;
abbrev pub DrivesWithin : Drawing → Type 0
DrivesWithin d = ((w : ℕ) → w < d.inputs → drivers w d.blocks ≡ 0) × ((w : ℕ) → d.wires ≤ w → drivers w d.blocks ≡ 0)

-- and each of these is driven by exactly one output port.
abbrev pub DrivenOnce : Drawing → Type 0
DrivenOnce d = (w : ℕ) → d.inputs ≤ w → w < d.wires → drivers w d.blocks ≡ 1

pub record Wired (d : Drawing) : Type 0 where
  pub reads_below : ReadsBelow d
  pub drives_within : DrivesWithin d
  pub driven_once : DrivenOnce d

-- Block k's ports are looked at from the left, and the first that names a wire outside low to high - 1 is refused.
abbrev pub each_within : ℕ → ℕ → ℕ → List ℕ → Result (Unit {0}) Fault
each_within low high k [] = Ok tt
each_within low high k (w ∷ ws) = cond (nat_le low w && nat_lt w high) (each_within low high k ws) (Err (fault PortOutside k w))

abbrev pub block_within : ℕ → ℕ → ℕ → Block → Result (Unit {0}) Fault
block_within e n k b = then (each_within 0 n k (ins b.inputs)) (λ _. each_within e n k (outs b.outputs))

abbrev pub ports_within : ℕ → ℕ → ℕ → List Block → Result (Unit {0}) Fault
ports_within e n k [] = Ok tt
ports_within e n k (b ∷ bs) = then (block_within e n k b) (λ _. ports_within e n (k + 1) bs)

-- The outputs of block k join the wires driven so far; the first that an earlier port drives is refused.
abbrev pub driven_by : ℕ → List ℕ → List ℕ → Result (List ℕ) Fault
driven_by k driven [] = Ok driven
driven_by k driven (w ∷ ws) = cond (times w driven == 0) (driven_by k (w ∷ driven) ws) (Err (fault DrivenTwice k w))

abbrev pub driven_in : ℕ → List ℕ → List Block → Result (List ℕ) Fault
driven_in k driven [] = Ok driven
driven_in k driven (b ∷ bs) = then (driven_by k driven (outs b.outputs)) (λ more. driven_in (k + 1) more bs)

-- The lowest of the wires from w on, as many as counted, that is not driven is refused; n blocks are drawn.
abbrev pub all_driven : ℕ → List ℕ → ℕ → ℕ → Result (Unit {0}) Fault
all_driven n driven w zero = Ok tt
all_driven n driven w (suc count) = cond (times w driven == 0) (Err (fault NotDriven n w)) (all_driven n driven (w + 1) count)

-- ports outside first, then wires driven twice, then wires not driven
unfoldable pub wiring_of : Drawing → Result (Unit {0}) Fault
wiring_of d =
    then (ports_within d.inputs d.wires 0 d.blocks) (λ _.
    then (driven_in 0 [] d.blocks) (λ driven.
    all_driven (length d.blocks) driven d.inputs (d.wires - d.inputs)))
