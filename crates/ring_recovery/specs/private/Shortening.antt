-- The text of changes, one after another, and a text that takes the place of a journal's.
use Rattle.std.specs.Prelude.{◌≡◌, ◌⊎◌, ◌++◌, ◌∷◌, ℕ, List, [], All}
use Rattle.ring_any.specs.Any.{any_greatest}
use Rattle.ring_any.specs.declared.any.Any.{Any}
use Rattle.ring_terms.specs.Object.{Object}
use Rattle.ring_change.specs.declared.change.Change.{Change}
use Rattle.ring_change.specs.Checks.{first_check}
use Rattle.ring_change.specs.Lines.{IsOneLine, check_behind, marked_line}
use Rattle.ring_change.specs.Spelling.{IsChange}
use Rattle.ring_recovery.specs.BookChanges.{book_changes}
use Rattle.ring_journal.specs.Journals.{IsSame}
use Rattle.ring_journal.specs.Lines.{whole_lines_of}
use Rattle.ring_lives.specs.Changes.{changes_of}
use Rattle.ring_lives.specs.Replays.{Replays}
use Rattle.ring_table.specs.declared.entry.Entry.{Entry}
use Rattle.ring_recovery.specs.JournalLines.{check_of}
use Rattle.ring_recovery.specs.Recovered.{IsTextOf}
use Rattle.ring_recovery.specs.Written.{LeadToSame, WrittenView}

-- The line of a change was added.
pub record AddsLine (change : Change Any) (check next : ℕ) (text more : List ℕ) : Type 0 where
  pub legal : IsChange change
  pub checked : next ≡ check_behind check change
  pub added : more ≡ text ++ (marked_line check change ++ 10 ∷ [])
  pub whole : IsOneLine (marked_line check change)

-- The text is the lines of these changes in this life, and `check` is the check after them.
pub record IsSpelled (life : ℕ) (changes : List (Change Any)) (check : ℕ) (text : List ℕ)
    : Type 0 where
  pub legal : All IsChange changes
  pub checked : check ≡ check_of first_check changes
  pub lines : IsTextOf life changes text

-- The text is the lines of the changes that lead to these groups.
pub record IsShort (life : ℕ) (groups : Object Any) (check : ℕ) (text : List ℕ) : Type 0 where
  pub spelled : IsSpelled life (book_changes groups) check text
  pub leads : Replays any_greatest [] (book_changes groups) groups

-- A text can take the place of the journal of these entries: its changes lead to the groups that
-- the entries lead to. `check` is the check after these changes.
pub record IsStandIn (life : ℕ) (entries : List (Entry Any)) (check : ℕ) (text : List ℕ)
    : Type 0 where
  pub changes : List (Change Any)
  pub spelled : IsSpelled life changes check text
  pub alike : LeadToSame changes (changes_of entries)

-- The journal is as it was, or its lines are those of this text.
abbrev pub IsReplacedBy : List ℕ → WrittenView → WrittenView → Type 0
IsReplacedBy text old new =
    IsSame old.journal new.journal ⊎ (new.journal.lines ≡ whole_lines_of text)
