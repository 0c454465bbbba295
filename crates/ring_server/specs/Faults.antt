-- The faults with which a service does not start.
use Rattle.std.specs.Prelude.{◌≡◌, ◌⊎◌}
use Rattle.ring_accept.specs.declared.fault.ProgramFault.{ProgramFault}
use Rattle.ring_accept.specs.declared.fault.ProgramFault.TheVariants as program

-- a fault of starting a service
abbrev pub IsOfStart : ProgramFault → Type 0
IsOfStart fault = (fault ≡ program.NoMemory) ⊎ (fault ≡ program.Thread)
