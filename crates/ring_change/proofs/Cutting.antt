-- A text at its first space.
use Rattle.std.proofs.Common.{◌≡◌, ◌≤◌, ◌+◌, ◌-◌, ◌==◌, ℕ, true, false, cond, ltb, List, [], ◌∷◌, length, take, drop, None, Some, refl, arith}
use Rattle.std.specs.Prelude.{position}
use Rattle.std.specs.List.{position_or_len}
use Rattle.std.proofs.lemmas.Bool.{ltb-true, ltb-false}
use Rattle.std.proofs.lemmas.List.Elements.{All-from_get_or}
use Rattle.std.proofs.lemmas.List.Sums.{fails_before_first}
use Rattle.std.proofs.lemmas.List.Splits.{slice_split_first, slice_split_none}
use Rattle.std.proofs.lemmas.Slice.{between_to_end}
use Rattle.ring_change.specs.private.Reading.{words_in}

-- the text before the first space is the first word, and the other words are those of the rest
pub words_in-cut : (text : List ℕ) (at : ℕ) → Some at ≡ position (λ b. b == 32) text → words_in text ≡ take at text ∷ words_in (take (length text - (at + 1)) (drop (at + 1) text))
words_in-cut text at found =
    let is_it = λ (b : ℕ). b == 32 in
    elim (ltb (position_or_len is_it text) (length text)) as (λ b. ltb (position_or_len is_it text) (length text) ≡ b → Some at ≡ cond b (Some (position_or_len is_it text)) None → words_in text ≡ take at text ∷ words_in (take (length text - (at + 1)) (drop (at + 1) text))) [
      | true ↦ λ below e.
          let same : at ≡ position_or_len is_it text = cc in
          rw (same, between_to_end text (position_or_len is_it text + 1) (length text) (omega arith)) (slice_split_first is_it text 0 (ltb-true _ _ below))
      | false ↦ λ _ e. cc
    ] refl found

-- a text with no space is one word
pub words_in-uncut : (text : List ℕ) → None ≡ position (λ b. b == 32) text → words_in text ≡ text ∷ []
words_in-uncut text none =
    let is_it = λ (b : ℕ). b == 32 in
    elim (ltb (position_or_len is_it text) (length text)) as (λ b. ltb (position_or_len is_it text) (length text) ≡ b → None ≡ cond b (Some (position_or_len is_it text)) None → words_in text ≡ text ∷ []) [
      | true ↦ λ _ e. cc
      | false ↦ λ past _.
          let all : length text ≤ position_or_len is_it text = ltb-false _ _ past in
          slice_split_none is_it text (All-from_get_or (λ b. is_it b ≡ false) text 0 (λ i below. fails_before_first is_it text i 0 (omega arith)))
    ] refl none
