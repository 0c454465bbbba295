-- The line on standard output at a fault of a service with a journal.
use Rattle.std.specs.Prelude.{◌≡◌, List, ℕ}
use Rattle.ring_lines.specs.Ends.{Writing, Wrote}
use Rattle.ring_accept.specs.declared.fault.JournalFault.TheVariants.{Failed}
use Rattle.ring_accept.specs.declared.fault.ProgramFault.{ProgramFault}
use Rattle.ring_accept.specs.declared.fault.ProgramFault.TheVariants.{Journal}
use Rattle.ring_server.specs.Running.{FirstOrNone}

-- The text that was written at a fault. If the journal failed, it is the first line. Else it is
-- that of a service without a journal.
abbrev pub ResumedAt : {V : Type 0} → (V → Writing → V → Type 0) → V → List ℕ → ProgramFault → V
    → Type 0
ResumedAt gives from first (Journal fault) to = (fault ≡ Failed) × Wrote gives from first to
ResumedAt gives from first fault to = FirstOrNone gives from first fault to
