-- The view of a recovered table, and how it follows from the file that was found.
use Rattle.std.specs.Prelude.{◌≡◌, ◌⊎◌, ◌+◌, ℕ, List, [], All}
use Rattle.ring_any.specs.Any.{any_greatest, any_two_way}
use Rattle.ring_any.specs.declared.any.Any.{Any}
use Rattle.ring_journal.specs.Journals.{HasAll}
use Rattle.ring_journal.specs.Lines.{lines_in, whole_lines_of}
use Rattle.ring_terms.specs.Object.{Object}
use Rattle.ring_table.specs.Histories.{IsLegal}
use Rattle.ring_table.specs.declared.entry.Entry.{Entry}
use Rattle.ring_table.specs.declared.entry.Entry.TheVariants.{Call, Filing}
use Rattle.ring_change.specs.declared.change.Change.{Change}
use Rattle.ring_change.specs.Spelling.{IsChange}
use Rattle.ring_lives.specs.Changes.{changes_of}
use Rattle.ring_lives.specs.Replays.{Replays}
use Rattle.ring_recovery.specs.JournalLines.{IsZerosAlone, journal_lines}
use Rattle.ring_recovery.specs.Life.{IsLife}

-- A recovered table: its book, its history, and the number of the life that it begins. The journal
-- of this life begins with `text`.
pub record RecoveredView : Type 0 where
  pub book : Object Any
  pub history : List (Entry Any)
  pub life : ℕ
  pub text : List ℕ

-- The text is the lines of a journal of these changes in this life, each with its LF.
pub record IsTextOf (life : ℕ) (changes : List (Change Any)) (text : List ℕ) : Type 0 where
  pub whole : HasAll text
  pub lines : whole_lines_of text ≡ journal_lines life changes

-- The lines of a file are those of these changes in its life with the number `lives`. If it is
-- empty or holds zeros alone, it had no life and there are no changes.
abbrev pub HasChanges : List ℕ → ℕ → List (Change Any) → Type 0
HasChanges found lives changes =
    (IsLife lives × (lines_in found ≡ journal_lines lives changes))
    ⊎ (IsZerosAlone found × (lives ≡ 0) × (changes ≡ []))

-- an entry that a recovery makes: a call of session 0, or a filing
abbrev pub IsReplayed : Entry Any → Type 0
IsReplayed (Call session command reply) = session ≡ 0
IsReplayed (Filing group term member leader noting) = Unit {0}

-- The changes of the table's history are those of the file, and the life that it begins is the next
-- one. The changes lead from no groups to its book.
pub record Recovers (found : List ℕ) (recovered : RecoveredView) : Type 0 where
  pub lives : ℕ
  pub next : recovered.life ≡ lives + 1
  pub found_changes : HasChanges found lives (changes_of recovered.history)
  pub legal : All IsChange (changes_of recovered.history)
  pub text : IsTextOf recovered.life (changes_of recovered.history) recovered.text
  pub history : IsLegal any_two_way any_greatest recovered.history recovered.book
  pub book : Replays any_greatest [] (changes_of recovered.history) recovered.book
  pub replayed : All IsReplayed recovered.history
