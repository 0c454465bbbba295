-- The faults with which a service that has begun ends.
use Rattle.std.specs.Prelude.{◌≡◌, ◌⊎◌}
use Rattle.ring_accept.specs.declared.fault.JournalFault.TheVariants.{Failed}
use Rattle.ring_accept.specs.declared.fault.ProgramFault.{ProgramFault}
use Rattle.ring_accept.specs.declared.fault.ProgramFault.TheVariants.{Journal, Thread}

-- the journal failed, or a thread could not be started
abbrev pub IsOfEnd : ProgramFault → Type 0
IsOfEnd fault = (fault ≡ Journal Failed) ⊎ (fault ≡ Thread)
