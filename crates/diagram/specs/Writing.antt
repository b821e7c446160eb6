-- What writing a text into a buffer answers, and leaves in the buffer.
use Rattle.std.specs.Prelude.{ℕ, cond, List, ◌++◌, length, drop, Ok, Err, Result, nat_le}
use Rattle.text.specs.declared.fault.Cause.TheVariants.{ShortBuffer}
use Rattle.text.specs.declared.fault.Fault.{Fault}
use Rattle.text.specs.Results.{fault}

-- the length written, or what was wanted and what was found
abbrev pub write_answer : List ℕ → List ℕ → Result ℕ Fault
write_answer text buffer = cond (nat_le (length text) (length buffer)) (Ok (length text)) (Err (fault ShortBuffer (length text) (length buffer)))

-- the text, and then the later bytes as they were; or every byte as it was
abbrev pub write_bytes : List ℕ → List ℕ → List ℕ
write_bytes text buffer = cond (nat_le (length text) (length buffer)) (text ++ drop (length text) buffer) buffer
