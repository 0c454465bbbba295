-- A table on which a list of changes is carried out, and the text of their lines.
use Rattle.std.specs.Prelude.{◌≡◌, ◌++◌, ◌∷◌, ℕ, List, [], All, length}
use Rattle.ring_any.specs.declared.any.Any.{Any}
use Rattle.ring_table.specs.Tables.{RecordedView}
use Rattle.ring_change.specs.declared.change.Change.{Change}
use Rattle.ring_change.specs.Checks.{first_check}
use Rattle.ring_change.specs.Lines.{IsOneLine, check_behind, marked_line}
use Rattle.ring_change.specs.Spelling.{IsChange}
use Rattle.ring_lives.specs.Changes.{changes_of}
use Rattle.ring_recovery.specs.JournalLines.{check_of}
use Rattle.ring_recovery.specs.Recovered.{IsReplayed, IsTextOf, RecoveredView}
use Rattle.ring_recovery.specs.private.Replaying.{Redoes}

-- A change was carried out, and its line was added.
pub record AddsChange (change : Change Any) (old new : RecordedView Any) (check next : ℕ)
    (text more : List ℕ) : Type 0 where
  pub redoes : Redoes old change new
  pub legal : IsChange change
  pub checked : next ≡ check_behind check change
  pub added : more ≡ text ++ (marked_line check change ++ 10 ∷ [])
  pub whole : IsOneLine (marked_line check change)

-- These changes were carried out, `check` is the check after them, and the text is their lines in
-- this life.
pub record IsRebuilt (life : ℕ) (changes : List (Change Any)) (table : RecordedView Any) (check : ℕ)
    (text : List ℕ) : Type 0 where
  pub made : changes_of table.history ≡ changes
  pub each : length table.history ≡ length changes
  pub legal : All IsChange changes
  pub replayed : All IsReplayed table.history
  pub checked : check ≡ check_of first_check changes
  pub lines : IsTextOf life changes text

-- the changes of a recovered table are these, and it begins this life
pub record IsOf (life : ℕ) (changes : List (Change Any)) (recovered : RecoveredView) : Type 0 where
  pub made : changes_of recovered.history ≡ changes
  pub each : length recovered.history ≡ length changes
  pub replayed : All IsReplayed recovered.history
  pub begins : recovered.life ≡ life
