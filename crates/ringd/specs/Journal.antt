-- The faults and the text of a journal.
use Rattle.std.specs.Prelude.{◌≡◌, ◌⊎◌, List, ℕ}
use Rattle.ring_journal.specs.Journals.{HasAll}
use Rattle.ring_lines.specs.Ends.{Writing, WroteFront}
use Rattle.ring_any.specs.declared.any.Any.{Any}
use Rattle.ring_table.specs.Tables.{RecordedView}
use Rattle.ring_recovery.specs.Compacted.{Resumes}
use Rattle.ring_recovery.specs.Recovered.{RecoveredView}
use Rattle.ring_etcd.specs.Readings.{IsTaken, Place}
use Rattle.ring_accept.specs.declared.fault.JournalFault.{JournalFault}
use Rattle.ring_accept.specs.declared.fault.ProgramFault.{ProgramFault}
use Rattle.ring_accept.specs.declared.fault.ProgramFault.TheVariants.{Journal, NoMemory, Thread, Write}

-- a fault of taking up a journal: one of the journal's own, or an allocation failed
abbrev pub IsOfJournal : ProgramFault → Type 0
IsOfJournal fault = ((why : JournalFault) × (fault ≡ Journal why)) ⊎ (fault ≡ NoMemory)

-- a fault of taking over a journal in etcd: one of taking up a journal, or the thread that renews
-- the lease could not be started
abbrev pub IsOfTaking : ProgramFault → Type 0
IsOfTaking fault = IsOfJournal fault ⊎ (fault ≡ Thread)

-- A table was resumed from these bytes, and this is the life that it begins.
pub record IsTakenUp (found : List ℕ) (table : RecordedView Any) (life : ℕ) : Type 0 where
  pub resumed : RecoveredView
  pub resumes : Resumes found resumed
  pub book : table.book ≡ resumed.book
  pub history : table.history ≡ resumed.history
  pub next : life ≡ resumed.life

-- The journal of this name in etcd was read and taken over. The bytes that were read are lines, and
-- a table was resumed from them. This is the life that it begins.
pub record IsTakenOver (name : List ℕ) (table : RecordedView Any) (life : ℕ) : Type 0 where
  pub place : Place
  pub taken : IsTaken name place
  pub lines : HasAll place.bytes
  pub resumed : IsTakenUp place.bytes table life

-- The text that was written at a fault of `journal`: nothing, or a prefix of a text at a failed
-- write. No other fault comes.
abbrev pub ListedAt : {V : Type 0} → (V → Writing → V → Type 0) → V → ProgramFault → V → Type 0
ListedAt gives from (Journal why) to = to ≡ from
ListedAt gives from NoMemory to = to ≡ from
ListedAt gives from Write to = (text : List ℕ) × WroteFront gives from text to
ListedAt gives from _ to = ⊥
