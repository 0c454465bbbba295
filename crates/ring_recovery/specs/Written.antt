-- The view of a recorder that writes changes to a journal, and the entries that a crash leaves.
use Rattle.std.specs.Prelude.{◌≡◌, ◌↔◌, ◌⊎◌, ◌≤◌, ℕ, List, [], All, length, take}
use Rattle.ring_any.specs.Any.{any_greatest}
use Rattle.ring_any.specs.declared.any.Any.{Any}
use Rattle.ring_change.specs.declared.change.Change.{Change}
use Rattle.ring_recovery.specs.BookChanges.{book_changes}
use Rattle.ring_journal.specs.Journals.{IsSame, JournalView}
use Rattle.ring_journal.specs.Lines.{lines_in}
use Rattle.ring_journal.specs.Moments.{Grows, MayFind, Moment}
use Rattle.ring_journal.specs.Whole.{IsWhole}
use Rattle.ring_terms.specs.Object.{Object}
use Rattle.ring_table.specs.declared.entry.Entry.{Entry}
use Rattle.ring_change.specs.Spelling.{IsChange}
use Rattle.ring_lives.specs.Changes.{changes_of}
use Rattle.ring_lives.specs.Replays.{Replays}
use Rattle.ring_recovery.specs.JournalLines.{journal_lines}
use Rattle.ring_recovery.specs.Life.{IsLife}

-- A recorder: its entries in order, for how many more there is room, its journal, and the number of
-- the journal's life. The first `sure` entries are kept for good.
pub record WrittenView : Type 0 where
  pub items : List (Entry Any)
  pub room : ℕ
  pub sure : ℕ
  pub journal : JournalView
  pub life : ℕ

-- These changes lead from no groups to the groups that those changes lead to, and to no others.
abbrev pub LeadToSame : List (Change Any) → List (Change Any) → Type 0
LeadToSame changes others =
    (groups : Object Any)
    → Replays any_greatest [] changes groups ↔ Replays any_greatest [] others groups

-- These are the lines of a journal in this life. Its changes lead to the groups that these entries
-- lead to. They are the changes of the entries, or fewer since the journal was rewritten.
pub record AreLinesOf (life : ℕ) (entries : List (Entry Any)) (lines : List (List ℕ)) : Type 0 where
  pub changes : List (Change Any)
  pub are : lines ≡ journal_lines life changes
  pub legal : All IsChange changes
  pub alike : LeadToSame changes (changes_of entries)

-- The lines of a file are those of a journal of the first entries in this life, and at least of the
-- first `fewest`. What follows them may be torn, and is not damage.
pub record FindsEntries (life : ℕ) (entries : List (Entry Any)) (fewest : ℕ) (found : List ℕ)
    : Type 0 where
  pub counted : IsLife life
  pub left : ℕ
  pub least : fewest ≤ left
  pub most : left ≤ length entries
  pub lines : AreLinesOf life (take left entries) (lines_in found)
  pub whole : IsWhole found

-- If a crash comes at any moment between these two, a restart finds the changes of the first
-- entries. These are at least the entries that were kept for good before.
abbrev pub LeavesFirst : WrittenView → WrittenView → Type 0
LeavesFirst old new =
    (m : Moment) → Grows old.journal.disk m → Grows m new.journal.disk
    → (found : List ℕ) → MayFind found m.text m.kept
    → FindsEntries new.life new.items old.sure found

-- The journal is as it was, or its lines are those of the changes that lead to the groups.
abbrev pub IsRewritten : WrittenView → Object Any → WrittenView → Type 0
IsRewritten old groups new =
    IsSame old.journal new.journal
    ⊎ (new.journal.lines ≡ journal_lines old.life (book_changes groups))

-- If a crash comes while a journal is rewritten, a restart finds the old text or the new one. By
-- either it finds the changes of the first entries. These are at least the entries that were kept
-- for good before.
abbrev pub LeavesEither : WrittenView → WrittenView → Type 0
LeavesEither old new =
    (found : List ℕ)
    → MayFind found old.journal.disk.text old.journal.disk.kept
    ⊎ MayFind found new.journal.disk.text new.journal.disk.kept
    → FindsEntries new.life new.items old.sure found
