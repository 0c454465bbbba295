-- Lives of a service over one journal. Each is resumed from the file that the last crash left.
use Rattle.std.specs.Prelude.{◌≡◌, ◌≤◌, ◌+◌, ℕ, List, [], ◌∷◌, ◌++◌, length}
use Rattle.ring_any.specs.Any.{any_greatest, any_two_way}
use Rattle.ring_any.specs.declared.any.Any.{Any}
use Rattle.ring_journal.specs.Lines.{front}
use Rattle.ring_terms.specs.Object.{Object}
use Rattle.ring_table.specs.Histories.{IsLegal}
use Rattle.ring_table.specs.declared.entry.Entry.{Entry}
use Rattle.ring_lives.specs.Leaders.{NameOneLeader}
use Rattle.ring_lives.specs.Lives.{IsOneRun, Life, all_told}
use Rattle.ring_recovery.specs.Compacted.{Resumes}
use Rattle.ring_recovery.specs.Recovered.{RecoveredView}
use Rattle.ring_recovery.specs.Written.{FindsEntries}

-- A life and its number: the entries that its table was opened with, and those that it got. At its
-- crash the first `sure` of all these were kept for good. Clients had got the replies of the first
-- `told` of those that it got. The crash left the file `found`.
pub record JournalLife : Type 0 where
  pub number : ℕ
  pub opening : List (Entry Any)
  pub log : List (Entry Any)
  pub sure : ℕ
  pub told : ℕ
  pub found : List ℕ

-- The table of the life is legal, and each entry whose reply a client got was kept for good. Its
-- file has the changes of the first entries, and at least of those that were kept for good.
pub record IsJournalLife (life : JournalLife) : Type 0 where
  pub book : Object Any
  pub legal : IsLegal any_two_way any_greatest (life.opening ++ life.log) book
  pub told : length life.opening + life.told ≤ life.sure
  pub left : FindsEntries life.number (life.opening ++ life.log) life.sure life.found

-- A table is resumed from the file, and the life begins with its entries and its number.
pub record Begins (found : List ℕ) (life : JournalLife) : Type 0 where
  pub table : RecoveredView
  pub resumes : Resumes found table
  pub opening : life.opening ≡ table.history
  pub number : life.number ≡ table.life

-- lives one after another, the first from this file and each other one from the file before it
abbrev pub GoOn : List ℕ → List JournalLife → Type 0
GoOn found [] = Unit {0}
GoOn found (life ∷ lives) = Begins found life × IsJournalLife life × GoOn life.found lives

-- the same lives without their files; what each crash left is cut off somewhere
abbrev pub AreCuts : List JournalLife → List (Life Any) → Type 0
AreCuts [] [] = Unit {0}
AreCuts (life ∷ lives) (cut ∷ cuts) =
    (cut.opening ≡ life.opening) × (cut.log ≡ life.log) × (cut.told ≡ life.told)
    × AreCuts lives cuts
AreCuts _ _ = ⊥

-- What the crashes left of these lives is one legal history, which has each entry whose reply a
-- client got. No two of these replies name different leaders of one term.
pub record IsOneHistory (lives : List JournalLife) : Type 0 where
  pub cuts : List (Life Any)
  pub are : AreCuts lives cuts
  pub run : IsOneRun any_two_way any_greatest cuts
  pub leader : NameOneLeader (all_told cuts)

-- All lives from a file without lines on are one history.
abbrev pub AreDurable : Type 0
AreDurable =
    (found : List ℕ) (lives : List JournalLife)
    → front found ≡ [] → GoOn found lives → IsOneHistory lives
