-- Clauses of inner functions that replay and run.
use Rattle.std.specs.Prelude.{◌≡◌, ◌⊎◌, ℕ, Result, Ok, Err}
use Rattle.ring_lines.specs.Ends.{End, Reading, Writing}
use Rattle.ring_lines.specs.declared.answers.LineFault.{LineFault}
use Rattle.ring_accept.specs.Faults.{told_as}
use Rattle.ring_accept.specs.declared.fault.ProgramFault.{ProgramFault}
use Rattle.ring_accept.specs.declared.fault.JournalFault.TheVariants.{Failed, TakenOver}
use Rattle.ring_accept.specs.declared.fault.ProgramFault.TheVariants.{Bad, Journal, NoMemory, Unreadable}
use Rattle.ring_schedule.specs.Replay.{Replays}
use Rattle.ringd.specs.Run.{SpellsNone}

-- a replay of all lines, or one that ended by a fault, which becomes the program's fault of its
-- kind
abbrev pub Replayed : {S V A : Type 0} → End S Reading → End V Writing → ℕ
    → Result A ProgramFault → Type 0
Replayed reader writer reads (Ok done) = (count : ℕ) × Replays reader writer reads (Ok count)
Replayed reader writer reads (Err told) =
    (fault : LineFault) × (told ≡ told_as fault) × Replays reader writer reads (Err fault)

-- a fault of reading a file: it cannot be read or is too long, or an allocation failed
abbrev pub IsOfReading : ProgramFault → Type 0
IsOfReading fault = (fault ≡ Unreadable) ⊎ (fault ≡ NoMemory)

-- a fault of a configuration's file: one of reading it, or its text spells no configuration
abbrev pub IsOfFile : ProgramFault → Type 0
IsOfFile fault = IsOfReading fault ⊎ ((fault ≡ Bad) × SpellsNone)

-- the fault of a service, and the one that the program ends with: the same one, or that the journal
-- was taken over where it failed
abbrev pub IsCauseOf : ProgramFault → ProgramFault → Type 0
IsCauseOf fault told =
    (told ≡ fault) ⊎ ((fault ≡ Journal Failed) × (told ≡ Journal TakenOver))
