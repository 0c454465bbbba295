-- The lines of changes, one after another, and of the first of them.
use Rattle.std.proofs.Common.{◌≡◌, ◌≢◌, ℕ, zero, suc, List, [], ◌∷◌, ◌++◌, All, length, take, refl, ap}
use Rattle.std.proofs.lemmas.List.Elements.{All-head, All-tail}
use Rattle.ring_any.specs.declared.any.Any.{Any}
use Rattle.ring_journal.specs.Lines.{IsLine}
use Rattle.ring_change.specs.declared.change.Change.{Change}
use Rattle.ring_change.specs.Checks.{first_check}
use Rattle.ring_change.specs.Lines.{check_behind, marked_line}
use Rattle.ring_recovery.specs.JournalLines.{check_of, heading, journal_lines, marked_lines}

-- the check after changes and then one more
pub check_of-push : (check : ℕ) (changes : List (Change Any)) (change : Change Any) → check_of check (changes ++ change ∷ []) ≡ check_behind (check_of check changes) change
check_of-push check [] change = refl
check_of-push check (first ∷ changes) change = check_of-push (check_behind check first) changes change

-- the lines of changes and then one more
pub marked_lines-push : (check : ℕ) (changes : List (Change Any)) (change : Change Any) → marked_lines check (changes ++ change ∷ []) ≡ marked_lines check changes ++ marked_line (check_of check changes) change ∷ []
marked_lines-push check [] change = refl
marked_lines-push check (first ∷ changes) change = ap (λ (lines : List (List ℕ)). marked_line check first ∷ lines) (marked_lines-push (check_behind check first) changes change)

pub journal_lines-push : (life : ℕ) (changes : List (Change Any)) (change : Change Any) → journal_lines life (changes ++ change ∷ []) ≡ journal_lines life changes ++ marked_line (check_of first_check changes) change ∷ []
journal_lines-push life changes change = ap (λ (lines : List (List ℕ)). heading life ∷ lines) (marked_lines-push first_check changes change)

-- each change has one line
pub marked_lines-length : (check : ℕ) (changes : List (Change Any)) → length (marked_lines check changes) ≡ length changes
marked_lines-length check [] = refl
marked_lines-length check (change ∷ changes) = ap suc (marked_lines-length (check_behind check change) changes)

-- the first lines are those of the first changes
pub marked_lines-take : (check n : ℕ) (changes : List (Change Any)) → take n (marked_lines check changes) ≡ marked_lines check (take n changes)
marked_lines-take check zero changes = refl
marked_lines-take check (suc n) [] = refl
marked_lines-take check (suc n) (change ∷ changes) = ap (λ (lines : List (List ℕ)). marked_line check change ∷ lines) (marked_lines-take (check_behind check change) n changes)

-- bytes of which none is an LF or a zero are a line
pub plain_line : (line : List ℕ) → All (λ byte. (byte ≢ 10) × (byte ≢ 0)) line → IsLine line
plain_line [] plain = tt
plain_line (byte ∷ line) plain =
    let head = All-head (λ (b : ℕ). (b ≢ 10) × (b ≢ 0)) byte line plain in
    (head.0, head.1, plain_line line (All-tail (λ (b : ℕ). (b ≢ 10) × (b ≢ 0)) byte line plain))
