-- The end of the text of a journal; a text of lines is whole.
use Rattle.std.proofs.Common.{◌≡◌, ◌∙◌, ◌≤◌, ℕ, List, [], ◌∷◌, length, take, ap, arith, refl, subst, sym}
use Rattle.ring_journal.specs.Journals.{HasAll}
use Rattle.ring_journal.specs.Lines.{lines_in, text_of, whole_lines_of}
use Rattle.ring_journal.specs.Moments.{MayFind}
use Rattle.ring_journal.specs.Whole.{IsWhole}
use Rattle.ring_journal.proofs.Finding.{HasNoZero, front_of, no_zero_text}
use Rattle.ring_journal.proofs.Zeros.{whole_find}
use Rattle.std.proofs.lemmas.List.{length-take-le}
use Rattle.std.proofs.Math.Seq.{take-length}

-- a text that was written and synced is found
found_itself : (text : List ℕ) → MayFind text text (length text)
found_itself [] = refl
found_itself (byte ∷ text) = (refl, found_itself text)

-- a text of lines has no zero
no_zero_in : (text : List ℕ) → HasAll text → HasNoZero text
no_zero_in text all = subst HasNoZero (sym all.all) (no_zero_text (whole_lines_of text) all.are)

-- no restart refuses a text of lines
pub text_is_whole : (text : List ℕ) → HasAll text → IsWhole text
text_is_whole text all = whole_find text text (length text) (no_zero_in text all) (found_itself text) (omega arith)

-- a restart that finds a text of lines finds these lines
pub finds_lines : (text : List ℕ) → HasAll text → lines_in text ≡ whole_lines_of text
finds_lines text all =
    let found = front_of text text (length text) (no_zero_in text all) (found_itself text) in
    let most = found.most in
    let least = found.least in
    let many : found.many ≡ length text = omega (arith, most, least) in
    ap whole_lines_of (found.are ∙ ap (λ (n : ℕ). take n text) many ∙ take-length text)

-- the text of a file ends after its lines
pub ends_at : (found : List ℕ) (end : ℕ) → end ≤ length found → HasAll (take end found) → whole_lines_of (take end found) ≡ lines_in found → end ≡ length (text_of (lines_in found))
ends_at found end within all lines = sym (length-take-le end found within) ∙ ap length all.all ∙ ap (λ (l : List (List ℕ)). length (text_of l)) lines
