-- The program's faults for a service that could not be started.
use Rattle.ring_service.specs.declared.service.StartFault.{StartFault}
use Rattle.ring_service.specs.declared.service.StartFault.TheVariants as start
use Rattle.ring_accept.specs.declared.fault.ProgramFault.{ProgramFault}
use Rattle.ring_accept.specs.declared.fault.ProgramFault.TheVariants as program

-- each fault of starting a service becomes the program's fault of that kind
abbrev pub start_told_as : StartFault → ProgramFault
start_told_as start.NoMemory = program.NoMemory
start_told_as start.Thread = program.Thread
