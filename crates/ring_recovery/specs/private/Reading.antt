-- The part of a file that was read.
use Rattle.std.specs.Prelude.{◌≡◌, ◌+◌, ℕ, List, [], ◌∷◌, All, length}
use Rattle.ring_any.specs.declared.any.Any.{Any}
use Rattle.ring_table.specs.Tables.{RecordedView}
use Rattle.ring_journal.specs.Lines.{lines_in}
use Rattle.ring_change.specs.Checks.{first_check}
use Rattle.ring_change.specs.Spelling.{IsChange}
use Rattle.ring_lives.specs.Changes.{changes_of}
use Rattle.ring_recovery.specs.JournalLines.{check_of, heading, journal_lines}
use Rattle.ring_recovery.specs.Life.{IsLife}
use Rattle.ring_recovery.specs.Recovered.{HasChanges, IsReplayed}

-- the life after that of this first line
abbrev pub IsNext : List ℕ → ℕ → Type 0
IsNext first life = (lives : ℕ) × IsLife lives × (first ≡ heading lives) × (life ≡ lives + 1)

-- the number of bytes of the first line with its LF, or 0 if there is none
abbrev pub first_size : List (List ℕ) → ℕ
first_size [] = 0
first_size (line ∷ lines) = length line + 1

-- the first of some lines
abbrev pub first_of : List (List ℕ) → List ℕ
first_of [] = []
first_of (line ∷ lines) = line

-- the lines after the first one
abbrev pub after_first : List (List ℕ) → List (List ℕ)
after_first [] = []
after_first (line ∷ lines) = lines

-- A file has a heading, and these lines after it. They begin at the byte `start`.
pub record IsHeaded (found : List ℕ) (start : ℕ) (lines : List (List ℕ)) : Type 0 where
  pub lives : ℕ
  pub counted : IsLife lives
  pub all : lines_in found ≡ heading lives ∷ lines
  pub starts : start ≡ length (heading lives) + 1

-- The changes of the table's history are those of a file with a heading, and `check` is the check
-- after them.
pub record HasRead (found : List ℕ) (table : RecordedView Any) (check : ℕ) : Type 0 where
  pub lives : ℕ
  pub counted : IsLife lives
  pub lines : lines_in found ≡ journal_lines lives (changes_of table.history)
  pub legal : All IsChange (changes_of table.history)
  pub replayed : All IsReplayed table.history
  pub checked : check ≡ check_of first_check (changes_of table.history)

-- The changes of the table's history are those of the file, and `check` is the check after them.
-- The life is the next one, and the lines of changes begin at the byte `start`.
pub record HasReplayed (found : List ℕ) (table : RecordedView Any) (life start check : ℕ)
    : Type 0 where
  pub lives : ℕ
  pub next : life ≡ lives + 1
  pub starts : start ≡ first_size (lines_in found)
  pub changes : HasChanges found lives (changes_of table.history)
  pub legal : All IsChange (changes_of table.history)
  pub replayed : All IsReplayed table.history
  pub checked : check ≡ check_of first_check (changes_of table.history)
