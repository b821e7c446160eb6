-- What a phase takes.
use Rattle.std.specs.Prelude.{Bool, true, false, Ok, Err, Result}
use Rattle.text.specs.declared.fault.Cause.TheVariants.{NoTickOpen, TickOpen, WrongToken}
use Rattle.text.specs.declared.fault.Fault.{Fault}
use Rattle.text.specs.Results.{fault}
use Rattle.machine.specs.declared.answers.Phase.{Phase}
use Rattle.machine.specs.declared.answers.Phase.TheVariants.{Resting, Open, Void}
use Rattle.run.specs.declared.admission.Call.{Call}
use Rattle.run.specs.declared.admission.Call.TheVariants.{Begin, Supply, Fire, Settle, Read, Close}

abbrev pub is_void : Phase → Bool
is_void Resting = false
is_void Open = false
is_void (Void f) = true

abbrev pub admitted : Phase → Call → Result (Unit {0}) Fault
admitted Resting Begin = Ok tt
admitted Resting Supply = Err (fault NoTickOpen 0 0)
admitted Resting Fire = Err (fault NoTickOpen 0 0)
admitted Resting Settle = Err (fault NoTickOpen 0 0)
admitted Resting Read = Ok tt
admitted Resting Close = Err (fault WrongToken 0 0)
admitted Open Begin = Err (fault TickOpen 0 0)
admitted Open Supply = Ok tt
admitted Open Fire = Ok tt
admitted Open Settle = Ok tt
admitted Open Read = Ok tt
admitted Open Close = Ok tt
admitted (Void f) Begin = Err f
admitted (Void f) Supply = Err f
admitted (Void f) Fire = Err f
admitted (Void f) Settle = Err f
admitted (Void f) Read = Err f
admitted (Void f) Close = Err (fault WrongToken 0 0)
