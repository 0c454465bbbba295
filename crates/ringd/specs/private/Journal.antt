-- The program's faults for a place and for a recovery.
use Rattle.std.specs.Prelude.{◌≡◌, ◌<◌, List, ℕ, length}
use Rattle.ring_accept.specs.declared.fault.JournalFault.TheVariants as journal
use Rattle.ring_accept.specs.declared.fault.ProgramFault.{ProgramFault}
use Rattle.ring_accept.specs.declared.fault.ProgramFault.TheVariants.{Journal, NoMemory}
use Rattle.ring_etcd.specs.declared.place.EtcdFault.{EtcdFault}
use Rattle.ring_etcd.specs.declared.place.EtcdFault.TheVariants as etcd
use Rattle.ring_file.specs.declared.place.PlaceFault.{PlaceFault}
use Rattle.ring_file.specs.declared.place.PlaceFault.TheVariants as place
use Rattle.ring_recovery.specs.declared.fault.RecoverFault.{RecoverFault}
use Rattle.ring_recovery.specs.declared.fault.RecoverFault.TheVariants as recovery
use Rattle.ring_recovery.specs.Damage.{IsFaultOf}

-- each fault of a place becomes the program's fault of that kind
abbrev pub place_told_as : PlaceFault → ProgramFault
place_told_as place.InUse = Journal journal.InUse
place_told_as place.Unreadable = Journal journal.Unreadable
place_told_as place.NotAFile = Journal journal.NotAFile
place_told_as place.Failed = Journal journal.Failed
place_told_as place.NoMemory = NoMemory

-- and so does each fault of a journal in etcd; what is no journal there is unreadable
abbrev pub etcd_told_as : EtcdFault → ProgramFault
etcd_told_as etcd.NoAnswer = Journal journal.NoAnswer
etcd_told_as etcd.TakenOver = Journal journal.TakenOver
etcd_told_as etcd.Damaged = Journal journal.Unreadable
etcd_told_as etcd.NoMemory = NoMemory

-- and so does each fault of a recovery
abbrev pub recovery_told_as : RecoverFault → ProgramFault
recovery_told_as (recovery.Bad at) = Journal (journal.Bad at)
recovery_told_as recovery.Version = Journal journal.Version
recovery_told_as recovery.Lives = Journal journal.Lives
recovery_told_as recovery.NoMemory = NoMemory

-- the fault is that of a reason why these bytes are refused
abbrev pub IsToldOf : List ℕ → ProgramFault → Type 0
IsToldOf found fault = (why : RecoverFault) × IsFaultOf found why × (fault ≡ recovery_told_as why)

-- The bytes have one after their last line, and the fault says that a byte of them is bad.
pub record IsOfTail (found : List ℕ) (fault : ProgramFault) : Type 0 where
  pub at : ℕ
  pub inside : at < length found
  pub says : fault ≡ Journal (journal.Bad at)
