-- Reading the lines of a file byte by byte.
use Rattle.std.proofs.Common.{◌≡◌, ◌≢◌, ◌+◌, ◌<◌, ◌≤◌, ◌⊎◌, ◌==◌, inl, inr, ℕ, zero, suc, List, [], ◌∷◌, ◌++◌, length, take, drop, get_or, refl, ap, sym, ◌∙◌, subst, arith, append_assoc, append-nil, length-append}
use Rattle.std.proofs.lemmas.Bool.{cond-true, cond-false, eq-eqb, ne_eqb}
use Rattle.std.proofs.lemmas.List.{length-take-le, take-append-drop, take_at, take_more, take-take}
use Rattle.ring_journal.specs.Journals.{HasAll}
use Rattle.ring_journal.specs.Lines.{AreLines, IsLine, front, lines_in, onto_whole, text_of, whole_lines_of}
use Rattle.ring_journal.proofs.Adding.{are_push, text_of-push}
use Rattle.ring_journal.proofs.Finding.{HasNoZero, no_zero-append, no_zero_line, no_zero_text}
use Rattle.ring_journal.proofs.Lining.{first_line, lines_of_text}

-- The bytes up to this place are these lines and a part of the next.
pub record Reads (found : List ℕ) (at whole : ℕ) : Type 0 where
  pub lines : List (List ℕ)
  pub rest : List ℕ
  pub are : AreLines lines
  pub is : IsLine rest
  pub split : take at found ≡ text_of lines ++ rest
  pub end : whole ≡ length (text_of lines)
  pub within : at ≤ length found

pub reads_none : (found : List ℕ) → Reads found 0 0
reads_none found = record { lines = []; rest = []; are = tt; is = tt; split = refl; end = refl; within = omega arith }

line_push : (line : List ℕ) (byte : ℕ) → IsLine line → byte ≢ 10 → byte ≢ 0 → IsLine (line ++ byte ∷ [])
line_push [] byte is lf some = (lf, some, tt)
line_push (first ∷ line) byte is lf some = (is.0, is.1, line_push line byte is.2 lf some)

-- an LF ends a line
pub reads_lf : (found : List ℕ) (at whole next : ℕ) → Reads found at whole → at < length found → get_or found at 0 ≡ 10 → next ≡ at + 1 → Reads found next next
reads_lf found at whole next r inside lf is =
    let text : take next found ≡ text_of (r.lines ++ r.rest ∷ []) =
    ap (λ (n : ℕ). take n found) is ∙ take_more found at 0 inside ∙ (λ i. r.split i ++ lf i ∷ []) ∙ append_assoc (text_of r.lines) r.rest (10 ∷ []) ∙ sym (text_of-push r.lines r.rest) in
    record {
      lines = r.lines ++ r.rest ∷ [];
      rest = [];
      are = are_push r.lines r.rest r.are r.is;
      is = tt;
      split = text ∙ sym (append-nil (text_of (r.lines ++ r.rest ∷ [])));
      end = sym (length-take-le next found (omega (arith, inside, is))) ∙ ap length text;
      within = omega (arith, inside, is);
    }

-- another byte goes on with the line
pub reads_byte : (found : List ℕ) (at whole next : ℕ) → Reads found at whole → at < length found → get_or found at 0 ≢ 10 → get_or found at 0 ≢ 0 → next ≡ at + 1 → Reads found next whole
reads_byte found at whole next r inside lf some is = record {
  lines = r.lines;
  rest = r.rest ++ get_or found at 0 ∷ [];
  are = r.are;
  is = line_push r.rest (get_or found at 0) r.is lf some;
  split = ap (λ (n : ℕ). take n found) is ∙ take_more found at 0 inside ∙ ap (λ (l : List ℕ). l ++ get_or found at 0 ∷ []) r.split ∙ append_assoc (text_of r.lines) r.rest (get_or found at 0 ∷ []);
  end = r.end;
  within = omega (arith, inside, is);
}

front-append : (a b : List ℕ) → HasNoZero a → front (a ++ b) ≡ a ++ front b
front-append [] b some = refl
front-append (byte ∷ a) b some = cond-false (byte == 0) [] (byte ∷ front (a ++ b)) (ne_eqb byte 0 some.0) ∙ ap (λ (l : List ℕ). byte ∷ l) (front-append a b some.1)

front_zero : (rest : List ℕ) → (length rest ≡ 0) ⊎ (get_or rest 0 1 ≡ 0) → front rest ≡ []
front_zero [] none = refl
front_zero (byte ∷ rest) (inl none) = absurd (omega (arith, none))
front_zero (byte ∷ rest) (inr is) = cond-true (byte == 0) [] (byte ∷ front rest) (eq-eqb byte 0 is)

lines_then : (lines : List (List ℕ)) (rest : List ℕ) → AreLines lines → IsLine rest → whole_lines_of (text_of lines ++ rest) ≡ lines
lines_then [] [] are is = refl
lines_then [] (byte ∷ rest) are is = cond-false (byte == 10) _ _ (ne_eqb byte 10 is.0) ∙ ap (onto_whole byte) (lines_then [] rest tt is.2)
lines_then (line ∷ lines) rest are is =
    ap whole_lines_of (append_assoc line (10 ∷ text_of lines) rest) ∙ first_line line (text_of lines ++ rest) are.0 ∙ ap (λ (l : List (List ℕ)). line ∷ l) (lines_then lines rest are.1 is)

-- at the end, or if the next byte is a zero, these are the lines of the file
pub read_all : (found : List ℕ) (at whole : ℕ) → Reads found at whole → (length (drop at found) ≡ 0) ⊎ (get_or (drop at found) 0 1 ≡ 0) → whole_lines_of (take whole found) ≡ lines_in found
read_all found at whole r over =
    let some : HasNoZero (text_of r.lines ++ r.rest) = no_zero-append (text_of r.lines) r.rest (no_zero_text r.lines r.are) (no_zero_line r.rest r.is) in
    let cut : found ≡ (text_of r.lines ++ r.rest) ++ drop at found = sym (take-append-drop at found) ∙ ap (λ (l : List ℕ). l ++ drop at found) r.split in
    let front_is : front found ≡ text_of r.lines ++ r.rest =
    ap front cut ∙ front-append (text_of r.lines ++ r.rest) (drop at found) some ∙ ap (λ (l : List ℕ). (text_of r.lines ++ r.rest) ++ l) (front_zero (drop at found) over) ∙ append-nil (text_of r.lines ++ r.rest) in
    let lines_are : lines_in found ≡ r.lines = ap whole_lines_of front_is ∙ lines_then r.lines r.rest r.are r.is in
    let short : whole ≤ at = omega (arith, r.end, ap length r.split, length-append (text_of r.lines) r.rest, length-take-le at found r.within) in
    ap whole_lines_of (sym (take-take whole at found short) ∙ ap (take whole) r.split ∙ take_at (text_of r.lines) r.rest whole (sym r.end)) ∙ lines_of_text r.lines r.are ∙ sym lines_are

pub whole_within : (found : List ℕ) (at whole : ℕ) → Reads found at whole → whole ≤ length found
whole_within found at whole r =
    omega (arith, r.end, r.within, ap length r.split, length-append (text_of r.lines) r.rest, length-take-le at found r.within)

-- if the byte at a place is a zero, so is the first of the rest
pub zero_first : (found : List ℕ) (at : ℕ) → at < length found → get_or found at 0 ≡ 0 → get_or (drop at found) 0 1 ≡ 0
zero_first [] at inside is = absurd (omega (arith, inside))
zero_first (byte ∷ found) zero inside is = is
zero_first (byte ∷ found) (suc at) inside is = zero_first found at (omega (arith, inside)) is

-- These bytes are lines and nothing else.
pub read_has_all : (found : List ℕ) (at whole : ℕ) → Reads found at whole → HasAll (take whole found)
read_has_all found at whole r =
    let short : whole ≤ at = omega (arith, r.end, ap length r.split, length-append (text_of r.lines) r.rest, length-take-le at found r.within) in
    let text : take whole found ≡ text_of r.lines = sym (take-take whole at found short) ∙ ap (take whole) r.split ∙ take_at (text_of r.lines) r.rest whole (sym r.end) in
    let lines : whole_lines_of (take whole found) ≡ r.lines = ap whole_lines_of text ∙ lines_of_text r.lines r.are in
    record {
      are = subst AreLines (sym lines) r.are;
      all = text ∙ ap text_of (sym lines);
    }
