-- What opening a profile answers.
use Rattle.std.specs.Prelude.{ℕ, cond, List, ◌++◌, length, Ok, Err, codes, decimal, Result, nat_le}
use Rattle.text.specs.declared.fault.Cause.TheVariants.{LongInput}
use Rattle.text.specs.declared.fault.Fault.{Fault}
use Rattle.text.specs.Results.{then, fault}
use Rattle.draft.specs.Drawings.{Drawing}
use Rattle.draft.specs.Text.{text_of}
use Rattle.diagram.specs.Reading.{read_of}
use Rattle.diagram.specs.Writing.{write_answer, write_bytes}
use Rattle.profile.specs.declared.open.Report.{Report}

-- the longest input that a program takes
abbrev pub most_bytes : ℕ
most_bytes = 65536

-- an input has no more bytes
abbrev pub limited : List ℕ → Result (Unit {0}) Fault
limited input = cond (nat_le (length input) most_bytes) (Ok tt) (Err (fault LongInput 0 0))

abbrev pub report_of : Drawing → ℕ → Report
report_of d n = record { inputs = d.inputs; wires = d.wires; blocks = length d.blocks; length = n }

-- an input within the limit is read, and its text is written back
abbrev pub opened : List ℕ → List ℕ → Result Report Fault
opened input back =
    cond (nat_le (length input) most_bytes)
    (then (read_of input) (λ d. then (write_answer (text_of d) back) (λ n. Ok (report_of d n))))
    (Err (fault LongInput 0 0))

-- what is in the buffer after it: a refused input leaves every byte
abbrev pub written_back : Result Drawing Fault → List ℕ → List ℕ
written_back (Ok d) back = write_bytes (text_of d) back
written_back (Err f) back = back

abbrev pub back_after : List ℕ → List ℕ → List ℕ
back_after input back = cond (nat_le (length input) most_bytes) (written_back (read_of input) back) back

abbrev pub shown_report : Report → List ℕ
shown_report r =
    codes "opened: " ++ (decimal r.inputs ++ (codes " inputs, " ++ (decimal r.wires ++ (codes " wires, " ++ (decimal r.blocks
    ++ (codes " blocks; " ++ (decimal r.length ++ codes " bytes, written back byte for byte")))))))
