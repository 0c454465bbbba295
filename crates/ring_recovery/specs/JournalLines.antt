-- The lines of a journal: the heading with the number of its life, then one line for each change.
use Rattle.std.specs.Prelude.{◌≡◌, ℕ, List, [], ◌∷◌, ◌++◌, All, codes}
use Rattle.std.specs.Fmt.{decimal}
use Rattle.ring_any.specs.declared.any.Any.{Any}
use Rattle.ring_change.specs.declared.change.Change.{Change}
use Rattle.ring_change.specs.Checks.{check_after, check_mark, first_check}
use Rattle.ring_change.specs.Lines.{check_behind, marked_line}

-- The file is empty, or each byte of it is a zero. Only such a file is a new journal.
abbrev pub IsZerosAlone : List ℕ → Type 0
IsZerosAlone found = All (λ byte. byte ≡ 0) found

-- the words before the number of the life
abbrev pub heading_words : List ℕ
heading_words = codes "ringd journal 1 life "

-- the number of a life, and the mark of the check of the heading
abbrev pub life_word : ℕ → List ℕ
life_word life =
    decimal life
    ++ check_mark (check_after (check_after first_check heading_words) (decimal life))

-- the first line of a journal in this life
abbrev pub heading : ℕ → List ℕ
heading life = heading_words ++ life_word life

-- the lines of changes, given the check before the first one
abbrev pub marked_lines : ℕ → List (Change Any) → List (List ℕ)
marked_lines check [] = []
marked_lines check (change ∷ changes) =
    marked_line check change ∷ marked_lines (check_behind check change) changes

-- the check after changes, given the check before the first one
abbrev pub check_of : ℕ → List (Change Any) → ℕ
check_of check [] = check
check_of check (change ∷ changes) = check_of (check_behind check change) changes

-- the lines of a journal of these changes in this life
abbrev pub journal_lines : ℕ → List (Change Any) → List (List ℕ)
journal_lines life changes = heading life ∷ marked_lines first_check changes
