-- The first zero and the end of the first line, and the lines of a file that they give.
use Rattle.std.proofs.Common.{◌≡◌, ◌+◌, ◌<◌, ◌≤◌, ◌==◌, ℕ, suc, Bool, true, false, not, cond, nat_lt, List, [], ◌∷◌, length, take, drop, Some, None, refl, ap, sym, arith}
use Rattle.std.specs.List.{position, position_or_len}
use Rattle.std.specs.Option.{unwrap_or}
use Rattle.std.proofs.lemmas.Bool.{ltb-true, ltb-false}
use Rattle.std.proofs.lemmas.List.Sums.{prefix_len-le-length}
use Rattle.std.proofs.lemmas.List.Recursion.{is_position_or_len}
use Rattle.ring_journal.specs.Lines.{front, onto_whole, whole_lines_of}
use Rattle.ring_journal.specs.private.Ending.{EndsFirst}

abbrev is_lf : ℕ → Bool
is_lf byte = byte == 10

abbrev is_zero : ℕ → Bool
is_zero byte = byte == 0

front_step : (byte : ℕ) (found : List ℕ) → length (front (byte ∷ found)) ≡ cond (is_zero byte) 0 (1 + length (front found))
front_step byte found = elim (byte == 0) as (λ b. length (cond b [] (byte ∷ front found)) ≡ cond b 0 (1 + length (front found))) [
  | true ↦ refl
  | false ↦ omega arith
]

pub front_len : (found : List ℕ) → length (front found) ≡ position_or_len is_zero found
front_len found = is_position_or_len (λ (l : List ℕ). length (front l)) is_zero refl front_step found

-- the length of the front is the place of the first zero, or the length of a file without zeros
pub zero_place : (found : List ℕ) → unwrap_or (position is_zero found) (length found) ≡ length (front found)
zero_place found = elim (nat_lt (position_or_len is_zero found) (length found)) as
    (λ b. nat_lt (position_or_len is_zero found) (length found) ≡ b → unwrap_or (cond b (Some (position_or_len is_zero found)) None) (length found) ≡ length (front found)) [
      | true ↦ λ _. sym (front_len found)
      | false ↦ λ past. omega (arith, front_len found, ltb-false _ _ past, prefix_len-le-length (λ byte. not (is_zero byte)) found)
    ] refl

-- the front of a file is its first bytes
pub take_front : (found : List ℕ) → take (length (front found)) found ≡ front found
take_front [] = refl
take_front (byte ∷ found) = elim (byte == 0) as (λ b. take (length (cond b [] (byte ∷ front found))) (byte ∷ found) ≡ cond b [] (byte ∷ front found)) [
  | true ↦ refl
  | false ↦ ap (λ (l : List ℕ). byte ∷ l) (take_front found)
]

pub front_within : (found : List ℕ) → length (front found) ≤ length found
front_within [] = omega arith
front_within (byte ∷ found) = elim (byte == 0) as (λ b. length (cond b [] (byte ∷ front found)) ≤ length (byte ∷ found)) [
  | true ↦ omega arith
  | false ↦ omega (arith, front_within found)
]

lf_none : (text : List ℕ) → length text ≤ position_or_len is_lf text → whole_lines_of text ≡ []
lf_none [] past = refl
lf_none (byte ∷ text) past = elim (byte == 10) as
    (λ b. suc (length text) ≤ cond (not b) (1 + position_or_len is_lf text) 0 → cond b ([] ∷ whole_lines_of text) (onto_whole byte (whole_lines_of text)) ≡ []) [
      | true ↦ λ h. absurd (omega (arith, h))
      | false ↦ λ h. ap (onto_whole byte) (lf_none text (omega (arith, h)))
    ] past

lf_later : (byte : ℕ) (text : List ℕ) (n m after : ℕ) → m ≡ suc n → after ≡ suc (n + 1) → whole_lines_of text ≡ take n text ∷ whole_lines_of (drop (n + 1) text)
    → onto_whole byte (whole_lines_of text) ≡ take m (byte ∷ text) ∷ whole_lines_of (drop after (byte ∷ text))
lf_later byte text n m after is next lines = rw (is, next) (ap (onto_whole byte) lines)

lf_some : (text : List ℕ) → position_or_len is_lf text < length text
    → whole_lines_of text ≡ take (position_or_len is_lf text) text ∷ whole_lines_of (drop (position_or_len is_lf text + 1) text)
lf_some [] below = absurd (omega (arith, below))
lf_some (byte ∷ text) below = elim (byte == 10) as
    (λ b. cond (not b) (1 + position_or_len is_lf text) 0 < suc (length text)
    → cond b ([] ∷ whole_lines_of text) (onto_whole byte (whole_lines_of text))
    ≡ take (cond (not b) (1 + position_or_len is_lf text) 0) (byte ∷ text) ∷ whole_lines_of (drop (cond (not b) (1 + position_or_len is_lf text) 0 + 1) (byte ∷ text))) [
      | true ↦ λ h. refl
      | false ↦ λ h. lf_later byte text (position_or_len is_lf text) _ _ (omega arith) (omega arith) (lf_some text (omega (arith, h)))
    ] below

-- the first line ends at the first LF
pub ends_first : (text : List ℕ) → EndsFirst text (position is_lf text)
ends_first text = elim (nat_lt (position_or_len is_lf text) (length text)) as
    (λ b. nat_lt (position_or_len is_lf text) (length text) ≡ b → EndsFirst text (cond b (Some (position_or_len is_lf text)) None)) [
      | true ↦ λ below. (ltb-true _ _ below, lf_some text (ltb-true _ _ below))
      | false ↦ λ past. lf_none text (ltb-false _ _ past)
    ] refl
