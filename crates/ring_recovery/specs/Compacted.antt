-- A recovered table whose changes may be fewer, and how it follows from the entries before the
-- crash.
use Rattle.std.specs.Prelude.{◌≡◌, ◌≤◌, ◌+◌, ℕ, List, [], All, length, take}
use Rattle.ring_any.specs.Any.{any_greatest, any_two_way}
use Rattle.ring_any.specs.declared.any.Any.{Any}
use Rattle.ring_terms.specs.Object.{Object}
use Rattle.ring_table.specs.Histories.{IsLegal}
use Rattle.ring_table.specs.declared.entry.Entry.{Entry}
use Rattle.ring_change.specs.Spelling.{IsChange}
use Rattle.ring_lives.specs.Changes.{changes_of}
use Rattle.ring_lives.specs.Replays.{LeadAlike, Replays}
use Rattle.ring_recovery.specs.Recovered.{IsReplayed, IsTextOf, RecoveredView, Recovers}
use Rattle.ring_recovery.specs.Written.{FindsEntries}

-- A recovered table has the book of another, and begins the same life. Its history is legal for
-- that book, and is not longer than the other's. The text is the lines of its changes.
pub record KeepsBook (old new : RecoveredView) : Type 0 where
  pub same : new.book ≡ old.book
  pub life : new.life ≡ old.life
  pub fewer : length new.history ≤ length old.history
  pub legal : All IsChange (changes_of new.history)
  pub text : IsTextOf new.life (changes_of new.history) new.text
  pub history : IsLegal any_two_way any_greatest new.history new.book
  pub book : Replays any_greatest [] (changes_of new.history) new.book
  pub replayed : All IsReplayed old.history → All IsReplayed new.history

-- A table has the book that is recovered from a file.
pub record Resumes (found : List ℕ) (resumed : RecoveredView) : Type 0 where
  pub recovered : RecoveredView
  pub recovers : Recovers found recovered
  pub keeps : KeepsBook recovered resumed

-- The history of a table leads to the groups after the first of these entries, and at least after
-- the first `fewest`. The table begins the life after this one.
pub record LeadsToFirst (life : ℕ) (entries : List (Entry Any)) (fewest : ℕ)
    (resumed : RecoveredView) : Type 0 where
  pub next : resumed.life ≡ life + 1
  pub left : ℕ
  pub least : fewest ≤ left
  pub most : left ≤ length entries
  pub alike : LeadAlike any_greatest resumed.history (take left entries)
  pub groups : (groups : Object Any)
      → IsLegal any_two_way any_greatest (take left entries) groups
      → resumed.book ≡ groups

-- each table that is resumed from a file that a crash left leads to the groups after the first
-- entries
abbrev pub ResumesAfterFirst : Type 0
ResumesAfterFirst =
    (life : ℕ) (entries : List (Entry Any)) (fewest : ℕ) (found : List ℕ)
    (resumed : RecoveredView)
    → FindsEntries life entries fewest found → Resumes found resumed
    → LeadsToFirst life entries fewest resumed
