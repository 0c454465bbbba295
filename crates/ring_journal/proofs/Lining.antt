-- The lines of the first bytes of a text are the first of its lines.
use Rattle.std.proofs.Common.{◌≡◌, ◌+◌, ◌≤◌, ◌⊎◌, ◌==◌, inl, inr, ℕ, zero, suc, List, [], ◌∷◌, ◌++◌, length, take, refl, ap, sym, ◌∙◌, subst, arith, append_assoc, length-append}
use Rattle.std.proofs.lemmas.Bool.{cond-false, ne_eqb}
use Rattle.std.proofs.lemmas.List.{take-append-le, take_at}
use Rattle.ring_journal.specs.Moments.{MayFind}
use Rattle.ring_journal.specs.Lines.{AreFirst, AreLines, IsLine, front, lines_in, onto_whole, text_of, whole_lines_of}
use Rattle.ring_journal.proofs.Finding.{HasNoZero, front_of, no_zero_front, no_zero_text}

pub first_line : (line rest : List ℕ) → IsLine line → whole_lines_of (line ++ 10 ∷ rest) ≡ line ∷ whole_lines_of rest
first_line [] rest is = refl
first_line (byte ∷ line) rest is = cond-false (byte == 10) _ _ (ne_eqb byte 10 is.0) ∙ ap (onto_whole byte) (first_line line rest is.2)

pub lines_of_text : (lines : List (List ℕ)) → AreLines lines → whole_lines_of (text_of lines) ≡ lines
lines_of_text [] are = refl
lines_of_text (line ∷ lines) are = first_line line (text_of lines) are.0 ∙ ap (λ (l : List (List ℕ)). line ∷ l) (lines_of_text lines are.1)

-- the first n bytes of a text that begins with this line: less than the line, or the line and some
-- bytes more
Cuts : List ℕ → List ℕ → ℕ → Type 0
Cuts line text n =
    ((n ≤ length line) × (whole_lines_of (take n (line ++ 10 ∷ text)) ≡ []))
    ⊎ ((more : ℕ) × (n ≡ suc (length line + more)) × (whole_lines_of (take n (line ++ 10 ∷ text)) ≡ line ∷ whole_lines_of (take more text)))

cuts : (line text : List ℕ) (n : ℕ) → IsLine line → Cuts line text n
unfolding Cuts
cuts line text zero is = inl (omega arith, refl)
cuts [] text (suc n) is = inr (n, omega arith, refl)
cuts (byte ∷ line) text (suc n) is = elim (cuts line text n is.2) [
  | inl short ↦ inl (omega (arith, short.0), cond-false (byte == 10) _ _ (ne_eqb byte 10 is.0) ∙ ap (onto_whole byte) short.1)
  | inr past ↦ inr (past.0, omega (arith, past.1), cond-false (byte == 10) _ _ (ne_eqb byte 10 is.0) ∙ ap (onto_whole byte) past.2)
]

pub record LinesOf (lines : List (List ℕ)) (n : ℕ) : Type 0 where
  pub many : ℕ
  pub are : whole_lines_of (take n (text_of lines)) ≡ take many lines
  pub most : many ≤ length lines
  pub least : (k : ℕ) → k ≤ length lines → length (text_of (take k lines)) ≤ n → k ≤ many

none_short : (line : List ℕ) (lines : List (List ℕ)) (n k : ℕ) → n ≤ length line → length (text_of (take k (line ∷ lines))) ≤ n → k ≤ 0
none_short line lines n zero short within = omega arith
none_short line lines n (suc k) short within = absurd (omega (arith, short, within, length-append line (10 ∷ text_of (take k lines))))

some_past : (line : List ℕ) (lines : List (List ℕ)) (n more many k : ℕ) → n ≡ suc (length line + more)
    → ((k : ℕ) → k ≤ length lines → length (text_of (take k lines)) ≤ more → k ≤ many)
    → k ≤ length (line ∷ lines) → length (text_of (take k (line ∷ lines))) ≤ n → k ≤ suc many
some_past line lines n more many zero is rest few within = omega arith
some_past line lines n more many (suc k) is rest few within =
    let here : k ≤ many = rest k (omega (arith, few)) (omega (arith, is, within, length-append line (10 ∷ text_of (take k lines)))) in
    omega (arith, here)

pub lines_of_first : (lines : List (List ℕ)) (n : ℕ) → AreLines lines → LinesOf lines n
unfolding Cuts
lines_of_first [] zero are = record { many = 0; are = refl; most = omega arith; least = λ k few within. few }
lines_of_first [] (suc n) are = record { many = 0; are = refl; most = omega arith; least = λ k few within. few }
lines_of_first (line ∷ lines) n are = elim (cuts line (text_of lines) n are.0) [
  | inl short ↦ record { many = 0; are = short.1; most = omega arith; least = λ k few within. none_short line lines n k short.0 within }
  | inr past ↦ let rest = lines_of_first lines past.0 are.1 in
      record {
        many = suc rest.many;
        are = past.2 ∙ ap (λ (l : List (List ℕ)). line ∷ l) rest.are;
        most = omega (arith, rest.most);
        least = λ k few within. some_past line lines n past.0 rest.many k past.1 rest.least few within;
      }
]

-- the text of the first lines is a prefix of the text of all
pub text_of_first : (lines : List (List ℕ)) (k : ℕ) → (rest : List ℕ) × (text_of lines ≡ text_of (take k lines) ++ rest)
text_of_first lines zero = (text_of lines, refl)
text_of_first [] (suc k) = ([], refl)
text_of_first (line ∷ lines) (suc k) =
    let more = text_of_first lines k in
    (more.0, ap (λ (t : List ℕ). line ++ 10 ∷ t) more.1 ∙ sym (append_assoc line (10 ∷ text_of (take k lines)) more.0))

-- This text is a prefix of the text of these lines. A restart finds the first of the lines, and no
-- fewer than those whose text is kept.
pub finds_first : (lines : List (List ℕ)) (text rest : List ℕ) (some kept : ℕ) (found : List ℕ)
    → AreLines lines → text ++ rest ≡ text_of lines → some ≤ length lines → length (text_of (take some lines)) ≤ kept → MayFind found text kept
    → AreFirst lines some (lines_in found)
finds_first lines text rest some kept found are whole few within find =
    let no_zero = no_zero_front text rest (subst HasNoZero (sym whole) (no_zero_text lines are)) in
    let at = front_of found text kept no_zero find in
    let of_all : front found ≡ take at.many (text_of lines) = at.are ∙ sym (take-append-le at.many text rest at.most) ∙ ap (take at.many) whole in
    let its = lines_of_first lines at.many are in
    record {
      many = its.many;
      are = ap whole_lines_of of_all ∙ its.are;
      least = its.least some few (omega (arith, within, at.least));
      most = its.most;
    }

-- the lines that are kept, if the kept bytes are the text of the first lines
pub kept_lines : (lines : List (List ℕ)) (text rest : List ℕ) (some kept : ℕ)
    → AreLines lines → text ++ rest ≡ text_of lines → some ≤ length lines → kept ≡ length (text_of (take some lines)) → kept ≤ length text
    → whole_lines_of (take kept text) ≡ take some lines
kept_lines lines text rest some kept are whole few is within =
    let front = text_of_first lines some in
    let same : take kept text ≡ text_of (take some lines) =
    sym (take-append-le kept text rest within) ∙ ap (take kept) (whole ∙ front.1) ∙ take_at (text_of (take some lines)) front.0 kept (sym is) in
    ap whole_lines_of same ∙ lines_of_text (take some lines) (first_are lines some are)
  where
    first_are : (lines : List (List ℕ)) (k : ℕ) → AreLines lines → AreLines (take k lines)
    first_are lines zero are = tt
    first_are [] (suc k) are = tt
    first_are (line ∷ lines) (suc k) are = (are.0, first_are lines k are.1)
