-- A journal with one line more.
use Rattle.std.proofs.Common.{◌≡◌, ◌<◌, ◌≤◌, ◌-◌, min, ℕ, Bool, List, [], ◌∷◌, ◌++◌, length, refl, ap, sym, ◌∙◌, arith, append_assoc, length-append}
use Rattle.std.proofs.Math.Nat.{min-le_right}
use Rattle.std.proofs.lemmas.List.{take-append-le}
use Rattle.ring_journal.specs.Moments.{Moment}
use Rattle.ring_journal.specs.Lines.{AreLines, IsLine, text_of, whole_lines_of}
use Rattle.ring_journal.specs.private.Invariant.{IsJournal}
use Rattle.ring_journal.proofs.Lining.{lines_of_text}

pub text_of-push : (lines : List (List ℕ)) (line : List ℕ) → text_of (lines ++ line ∷ []) ≡ text_of lines ++ (line ++ 10 ∷ [])
text_of-push [] line = refl
text_of-push (first ∷ lines) line = ap (λ (t : List ℕ). first ++ 10 ∷ t) (text_of-push lines line) ∙ sym (append_assoc first (10 ∷ text_of lines) (line ++ 10 ∷ []))

pub are_push : (lines : List (List ℕ)) (line : List ℕ) → AreLines lines → IsLine line → AreLines (lines ++ line ∷ [])
are_push [] line are is = (is, tt)
are_push (first ∷ lines) line are is = (are.0, are_push lines line are.1 is)

whole_push : (text batch : List ℕ) (lines : List (List ℕ)) (line : List ℕ) → text ++ batch ≡ text_of lines → text ++ (batch ++ (line ++ 10 ∷ [])) ≡ text_of (lines ++ line ∷ [])
whole_push text batch lines line whole =
    sym (append_assoc text batch (line ++ 10 ∷ [])) ∙ ap (λ (t : List ℕ). t ++ (line ++ 10 ∷ [])) whole ∙ sym (text_of-push lines line)

pub still_journal : (disk : Moment) (batch new line : List ℕ) (broken : Bool) → IsJournal disk batch broken → IsLine line → new ≡ batch ++ (line ++ 10 ∷ []) → length new ≤ 65536 → IsJournal disk new broken
still_journal disk batch new line broken j is added short = record {
  lines = j.lines ++ line ∷ [];
  some = j.some;
  are = are_push j.lines line j.are is;
  whole = ap (λ (b : List ℕ). disk.text ++ b) added ∙ whole_push disk.text batch j.lines line j.whole;
  few = omega (arith, j.few, length-append j.lines (line ∷ []));
  kept = j.kept ∙ ap (λ (l : List (List ℕ)). length (text_of l)) (sym (take-append-le j.some j.lines (line ∷ []) j.few));
  within = j.within;
  synced = j.synced;
  near = j.near;
  short = short;
}

pub its_lines : (disk : Moment) (batch : List ℕ) (broken : Bool) → (j : IsJournal disk batch broken) → whole_lines_of (disk.text ++ batch) ≡ j.lines
its_lines disk batch broken j = ap whole_lines_of j.whole ∙ lines_of_text j.lines j.are

pub one_more : (disk : Moment) (batch new line : List ℕ) (broken : Bool) → IsJournal disk batch broken → IsLine line → new ≡ batch ++ (line ++ 10 ∷ [])
    → whole_lines_of (disk.text ++ new) ≡ whole_lines_of (disk.text ++ batch) ++ line ∷ []
one_more disk batch new line broken j is added =
    ap whole_lines_of (ap (λ (b : List ℕ). disk.text ++ b) added ∙ whole_push disk.text batch j.lines line j.whole)
    ∙ lines_of_text (j.lines ++ line ∷ []) (are_push j.lines line j.are is)
    ∙ ap (λ (l : List (List ℕ)). l ++ line ∷ []) (sym (its_lines disk batch broken j))

-- a line for which there is room keeps a batch short
pub short_more : (batch line new : List ℕ) (room : ℕ) → length line < min room (65536 - length batch) → new ≡ batch ++ (line ++ 10 ∷ []) → length new ≤ 65536
short_more batch line new room fits is =
    omega (arith, fits, min-le_right room (65536 - length batch), ap length is, length-append batch (line ++ 10 ∷ []), length-append line (10 ∷ []))
