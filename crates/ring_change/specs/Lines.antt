-- The lines of a journal: a change, and the mark of the check after it.
use Rattle.std.specs.Prelude.{◌≡◌, ◌≢◌, ◌≤◌, ◌++◌, ℕ, List, All, length}
use Rattle.ring_any.specs.declared.any.Any.{Any}
use Rattle.ring_change.specs.declared.change.Change.{Change}
use Rattle.ring_change.specs.Checks.{check_after, check_mark}
use Rattle.ring_change.specs.Spelling.{IsChange, change_line}

-- the check after a change
abbrev pub check_behind : ℕ → Change Any → ℕ
check_behind check change = check_after check (change_line change)

-- the line of a change in a journal, given the check before it
abbrev pub marked_line : ℕ → Change Any → List ℕ
marked_line check change = change_line change ++ check_mark (check_behind check change)

-- These bytes are the line of this change, and lead from the one check to the other.
pub record IsMarked (check : ℕ) (line : List ℕ) (change : Change Any) (next : ℕ) : Type 0 where
  pub legal : IsChange change
  pub same : line ≡ marked_line check change
  pub checked : next ≡ check_behind check change

-- at most 70 bytes, none of them an LF or a zero
pub record IsOneLine (line : List ℕ) : Type 0 where
  pub short : length line ≤ 70
  pub plain : All (λ byte. (byte ≢ 10) × (byte ≢ 0)) line

-- the line of each change in a journal is one line, whatever the check before it
abbrev pub ChangesAreLines : Type 0
ChangesAreLines =
    (check : ℕ) (change : Change Any) → IsChange change → IsOneLine (marked_line check change)
