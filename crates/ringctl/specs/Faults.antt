-- The exit status of the program.
use Rattle.std.specs.Prelude.{ℕ}
use Rattle.ringctl.specs.declared.fault.Fault.{Fault}
use Rattle.ringctl.specs.declared.fault.Fault.TheVariants.{Refused, NoService, Read, Write, NoMemory}

-- The exit status after a fault.
abbrev pub status_of : Fault → ℕ
status_of (Refused _) = 1
status_of NoService = 3
status_of Read = 1
status_of Write = 1
status_of NoMemory = 1
