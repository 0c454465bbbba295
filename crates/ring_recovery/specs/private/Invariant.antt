-- The invariants of a recorder and of a recovered table.
use Rattle.std.specs.Prelude.{◌≡◌, ◌<◌, ◌≤◌, ◌^◌, ℕ, ◌+◌, List, ◌++◌, All, length, take}
use Rattle.ring_any.specs.declared.any.Any.{Any}
use Rattle.ring_journal.specs.Journals.{JournalView, settled}
use Rattle.ring_table.specs.declared.entry.Entry.{Entry}
use Rattle.ring_change.specs.declared.change.Change.{Change}
use Rattle.ring_change.specs.Checks.{first_check}
use Rattle.ring_change.specs.Spelling.{IsChange}
use Rattle.ring_lives.specs.Changes.{changes_of}
use Rattle.ring_recovery.specs.JournalLines.{check_of, journal_lines}
use Rattle.ring_recovery.specs.Life.{IsLife}
use Rattle.ring_recovery.specs.Recovered.{IsTextOf}
use Rattle.ring_recovery.specs.Written.{LeadToSame}

-- The journal was rewritten after the first entries, or never. It has the lines of the changes that
-- it began with then, and of the changes of the rest of the entries. `check` is the check after
-- them. The lines of the first `sure` entries are settled. There are fewer than 2^44 entries.
pub record IsWritten (life : ℕ) (entries : List (Entry Any)) (journal : JournalView)
    (check sure : ℕ) : Type 0 where
  pub counted : IsLife life
  pub begun : List (Change Any)
  pub first : List (Entry Any)
  pub rest : List (Entry Any)
  pub all : entries ≡ first ++ rest
  pub alike : LeadToSame begun (changes_of first)
  pub lines : journal.lines ≡ journal_lines life (begun ++ changes_of rest)
  pub legal : All IsChange (begun ++ changes_of rest)
  pub checked : check ≡ check_of first_check (begun ++ changes_of rest)
  pub few : length entries < 2 ^ 44
  pub more : ℕ
  pub surely : sure ≡ length first + more
  pub within : more ≤ length rest
  pub kept : 1 + (length begun + length (changes_of (take more rest))) ≤ settled journal

-- The text is the lines of the changes of this history in this life, and `check` is the check after
-- them. The history has fewer than 2^44 entries.
pub record IsRecovered (life : ℕ) (history : List (Entry Any)) (check : ℕ) (text : List ℕ)
    : Type 0 where
  pub few : length history < 2 ^ 44
  pub text_of : IsTextOf life (changes_of history) text
  pub legal : All IsChange (changes_of history)
  pub checked : check ≡ check_of first_check (changes_of history)
