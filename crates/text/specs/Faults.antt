-- The number of each cause, and a fault as it is printed.
use Rattle.std.specs.Prelude.{ℕ, List, ◌++◌, codes, decimal}
use Rattle.text.specs.declared.fault.Cause.{Cause}
use Rattle.text.specs.declared.fault.Cause.TheVariants.{Form, Range, FieldCount, TooManyBlocks, PortOutside, DrivenTwice, NotDriven, KitDiffers, TableLength, NoTickOpen, TickOpen, NoTickLeft, NumberOutside, AlreadyKnown, WrongToken, ShortBuffer, LongInput}
use Rattle.text.specs.declared.fault.Fault.{Fault}

abbrev pub number_of : Cause → ℕ
-- a field has not the form that its position asks; line, field
number_of Form = 1
-- a well-formed number is outside its range; line, field
number_of Range = 2
-- a line has the wrong number of fields, or no line feed (0 fields); line, fields found
number_of FieldCount = 3
-- one block line too many; line, 1
number_of TooManyBlocks = 4
-- a port names a wire that it may not; block, wire
number_of PortOutside = 5
-- an earlier port drives the wire; block, wire
number_of DrivenTwice = 6
-- no port drives the wire; number of blocks, wire
number_of NotDriven = 7
-- the kit does not know the kind, or counts its ports otherwise; block, 0
number_of KitDiffers = 8
-- a lent table has the wrong length; wanted, found
number_of TableLength = 9
-- no tick is open; 0, 0
number_of NoTickOpen = 10
-- a tick is open; 0, 0
number_of TickOpen = 11
-- the last tick has begun; 0, 0
number_of NoTickLeft = 12
-- a wire or a block number is too large; number, limit
number_of NumberOutside = 13
-- the input wire is known already; wire, 0
number_of AlreadyKnown = 14
-- no tick is open, or the token is another's; 0, 0
number_of WrongToken = 15
-- the buffer is shorter than the text; wanted, found
number_of ShortBuffer = 16
-- the input is longer than a bench takes; 0, 0
number_of LongInput = 17

abbrev pub shown_fault : Fault → List ℕ
shown_fault f = codes "refused," ++ (decimal (number_of f.cause) ++ (codes "," ++ (decimal f.first ++ (codes "," ++ decimal f.second))))
