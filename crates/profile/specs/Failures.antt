-- Why an input is not read or gone through, as an error of reading.
use Rattle.std.specs.Prelude.{◌≡◌}
use Rattle.std.specs.IoError.{error_kind}
use Rattle.std.specs.declared.io.Error.{Error}
use Rattle.std.specs.declared.io.ErrorKind.TheVariants.{OutOfMemory}
use Rattle.profile.specs.declared.input.InputError.{InputError}
use Rattle.profile.specs.declared.input.InputError.TheVariants.{Reading, Memory}

-- an error of reading is itself, and one of memory has the kind that says so
abbrev pub AsReading : InputError → Error → Type 0
AsReading (Reading e) made = made ≡ e
AsReading (Memory e) made = error_kind made ≡ OutOfMemory
