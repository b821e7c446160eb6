-- What a line of a diagram's text draws, or the fault that refuses it. Fields count from 1, the word included.
use Rattle.std.specs.Prelude.{ℕ, cond, List, length, Some, None, Ok, Err, codes, Option, Result, ◌==◌, nat_le}
use Rattle.text.specs.declared.fault.Cause.{Cause}
use Rattle.text.specs.declared.fault.Cause.TheVariants.{Range, FieldCount, TooManyBlocks}
use Rattle.text.specs.declared.fault.Fault.{Fault}
use Rattle.text.specs.Numerals.{number_in, integer_in}
use Rattle.text.specs.Pieces.{field}
use Rattle.text.specs.Results.{then, mapped, placed, fault}
use Rattle.text.specs.Walk.{word_in, empty_in}
use Rattle.draft.specs.declared.block.Block.{Block}
use Rattle.draft.specs.declared.block.InPorts.{InPorts}
use Rattle.draft.specs.declared.block.InPorts.TheVariants.{Zero, One as OneIn, Two as TwoIn, Three}
use Rattle.draft.specs.declared.block.OutPorts.{OutPorts}
use Rattle.draft.specs.declared.block.OutPorts.TheVariants.{One as OneOut, Two as TwoOut}
use Rattle.draft.specs.Limits.{most_inputs, most_wires, last_wire, most_blocks, last_kind}

unfoldable pub kind_in : List ℕ → Result ℕ Cause
kind_in f = number_in last_kind f

unfoldable pub wire_in : List ℕ → Result ℕ Cause
wire_in f = number_in last_wire f

-- a port is empty, or a wire number
unfoldable pub port_in : List ℕ → Result (Option ℕ) Cause
port_in f = cond (length f == 0) (Ok None) (mapped Some (wire_in f))

-- field 6 after inputs a and b
abbrev pub third_input : ℕ → List (List ℕ) → ℕ → ℕ → Result InPorts Fault
third_input k fs a b = then (placed k 6 (port_in (field fs 5))) (λ c. elim c [ None ↦ Ok (TwoIn a b) | Some wire ↦ Ok (Three a b wire) ])

-- fields 5 and 6 after input a
abbrev pub second_input : ℕ → List (List ℕ) → ℕ → Result InPorts Fault
second_input k fs a =
    then (placed k 5 (port_in (field fs 4))) (λ b. elim b [
      | None ↦ then (placed k 6 (empty_in (field fs 5))) (λ _. Ok (OneIn a))
      | Some wire ↦ third_input k fs a wire
    ])

-- fields 5 and 6 after an empty first input
abbrev pub no_input : ℕ → List (List ℕ) → Result InPorts Fault
no_input k fs = then (placed k 5 (empty_in (field fs 4))) (λ _. then (placed k 6 (empty_in (field fs 5))) (λ _. Ok Zero))

-- fields 4 to 6: after an empty port the others of its side have to be empty
unfoldable pub in_ports : ℕ → List (List ℕ) → Result InPorts Fault
in_ports k fs = then (placed k 4 (port_in (field fs 3))) (λ a. elim a [ None ↦ no_input k fs | Some wire ↦ second_input k fs wire ])

-- fields 7 and 8: the first output has to be filled
unfoldable pub out_ports : ℕ → List (List ℕ) → Result OutPorts Fault
out_ports k fs =
    then (placed k 7 (wire_in (field fs 6))) (λ p.
    then (placed k 8 (port_in (field fs 7))) (λ q. elim q [ None ↦ Ok (OneOut p) | Some wq ↦ Ok (TwoOut p wq) ]))

-- the fields of a block line that has eight
abbrev pub block_of : ℕ → List (List ℕ) → Result Block Fault
block_of k fs =
    then (placed k 2 (kind_in (field fs 1))) (λ kind.
    then (placed k 3 (integer_in (field fs 2))) (λ parameter.
    then (in_ports k fs) (λ ins.
    then (out_ports k fs) (λ outs.
    Ok (record { kind = kind; parameter = parameter; inputs = ins; outputs = outs })))))

-- line k, when n blocks are drawn: its word, the number of blocks, the number of fields, then the fields
abbrev pub block_line : ℕ → ℕ → List (List ℕ) → Result Block Fault
block_line k n fs =
    then (placed k 1 (word_in (codes "block") (field fs 0))) (λ _.
    cond (nat_le most_blocks n) (Err (fault TooManyBlocks k 1))
    (cond (length fs == 8) (block_of k fs) (Err (fault FieldCount k (length fs)))))

-- a number of wires, from `least` to `most`
unfoldable pub size_in : ℕ → ℕ → List ℕ → Result ℕ Cause
size_in least most f = then (number_in most f) (λ n. cond (nat_le least n) (Ok n) (Err Range))

-- the number of inputs, and the number of wires, which the inputs are among
abbrev pub sizes_of : ℕ → List (List ℕ) → Result (ℕ × ℕ) Fault
sizes_of k fs = then (placed k 2 (size_in 0 most_inputs (field fs 1))) (λ e. then (placed k 3 (size_in e most_wires (field fs 2))) (λ w. Ok (e, w)))

-- the first line: its word, the number of fields, then the fields
abbrev pub diagram_line : List (List ℕ) → Result (ℕ × ℕ) Fault
diagram_line fs =
    then (placed 1 1 (word_in (codes "diagram") (field fs 0))) (λ _.
    cond (length fs == 3) (sizes_of 1 fs) (Err (fault FieldCount 1 (length fs))))
