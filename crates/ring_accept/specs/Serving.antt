-- Why no more clients are served.
use Rattle.std.specs.Prelude.{◌≡◌, ◌⊎◌}
use Rattle.ring_accept.specs.declared.fault.ProgramFault.{ProgramFault}
use Rattle.ring_accept.specs.declared.fault.ProgramFault.TheVariants.{Accept, Thread}

-- a fault of accepting connections
abbrev pub IsOfConnections : ProgramFault → Type 0
IsOfConnections fault = (fault ≡ Accept) ⊎ (fault ≡ Thread)
