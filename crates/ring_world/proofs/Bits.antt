-- Sets of links as bits: the first bit is found.
use Rattle.std.proofs.Common.{◌≡◌, ◌≢◌, ◌+◌, ◌*◌, ◌/◌, ◌%◌, ◌^◌, ◌<◌, ◌≤◌, ◌==◌, ℕ, cond, List, length, Some, get_or, slice_set, refl, sym, ap, ◌∙◌, inl, inr, arith, w64, get_or-set_other, get_or-set_same, length-set}
use Rattle.std.proofs.lemmas.Bool.{cases_lt}
use Rattle.std.proofs.lemmas.Bool.Decides.{nat_tests}
use Rattle.std.specs.Prelude.{not}
use Rattle.std.specs.Int.{bit_at, trailing_zeros}
use Rattle.std.proofs.lemmas.Nat.Bits.{bit_at-trailing_zeros, bit_at-zero}
use Rattle.ring_world.specs.private.LinkSets.{IsFirst, IsSummary, bit_of}
use Rattle.ring_world.proofs.Links.{same_or_not}

-- a number with a bit isn't 0
pub bit_not_zero : (n k : ℕ) → bit_at n k ≡ 1 → n ≢ 0
bit_not_zero n k there = λ zero. absurd (omega (arith, there, ap (λ (m : ℕ). bit_at m k) zero, bit_at-zero k))

-- the first bit of the first word that isn't 0
pub first_bit : (words : List ℕ) (index word : ℕ) → ((k : ℕ) → k < index → get_or words k 0 ≡ 0) → get_or words index 0 ≡ word → word ≢ 0 → word < 2 ^ 64
    → IsFirst words (Some (64 * index + trailing_zeros w64 word))
first_bit words index word zeros is some fits =
    let lowest = bit_at-trailing_zeros w64 word (omega arith) fits in
    let at : ℕ = 64 * index + trailing_zeros w64 word in
    let low : trailing_zeros w64 word < 64 = lowest.0 in
    let in_word : at / 64 ≡ index = omega arith in
    let in_bits : at % 64 ≡ trailing_zeros w64 word = omega arith in (
      rw (in_word, in_bits, is) (lowest.1),
      λ other before.
          elim (same_or_not (other / 64) index) [
            | inl here ↦ rw (here, is) (lowest.2 (other % 64) (omega arith))
            | inr differ ↦ ap (λ (n : ℕ). bit_at n (other % 64)) (zeros (other / 64) (omega arith)) ∙ bit_at-zero (other % 64)
          ],
    )

-- ---- A summary of which words have bits

-- its first bit is that of a word
pub summed_within : (words : List ℕ) (summary : ℕ) → IsSummary words summary → summary ≢ 0 → summary < 2 ^ 64 → trailing_zeros w64 summary < length words
summed_within words summary sums is fits =
    let lowest = bit_at-trailing_zeros w64 summary (omega arith) fits in
    elim (cases_lt (trailing_zeros w64 summary) (length words)) [
      | inl below ↦ below
      | inr past ↦ let none = sums.beyond (trailing_zeros w64 summary) past (lowest.0) in absurd (omega (arith, none, lowest.1))
    ]

-- the first bit of the word that its first bit names is the first
pub summed_first : (words : List ℕ) (summary : ℕ) → IsSummary words summary → summary ≢ 0 → summary < 2 ^ 64 → get_or words (trailing_zeros w64 summary) 0 < 2 ^ 64
    → IsFirst words (Some (64 * trailing_zeros w64 summary + trailing_zeros w64 (get_or words (trailing_zeros w64 summary) 0)))
summed_first words summary sums is fits few =
    let lowest = bit_at-trailing_zeros w64 summary (omega arith) fits in
    let within = summed_within words summary sums is fits in
    first_bit words (trailing_zeros w64 summary) _ (λ k below. sums.none k (omega (arith, within)) (lowest.2 k below)) refl (sums.some _ within (lowest.1)) few

-- a mark of whether a number is 0
pub marked_none : (n mark : ℕ) → mark ≡ cond (not (n == 0)) 1 0 → mark ≡ 0 → n ≡ 0
marked_none n mark is none = grind (arith, nat_tests)

pub marked_some : (n mark : ℕ) → mark ≡ cond (not (n == 0)) 1 0 → mark ≡ 1 → n ≢ 0
marked_some n mark is some = grind (arith, nat_tests)

-- it stays a summary where a word is put and its bit says whether that word has any
pub summed_put : (words : List ℕ) (summary after index word : ℕ) → IsSummary words summary → length words ≤ 64 → index < length words → (bit_at after index ≡ 0 → word ≡ 0) → (bit_at after index ≡ 1 → word ≢ 0)
    → ((other : ℕ) → other < 64 → other ≢ index → bit_at after other ≡ bit_at summary other)
    → IsSummary (slice_set words index word) after
summed_put words summary after index word sums few inside none some others =
    let size : length (slice_set words index word) ≡ length words = length-set words index word in
    record {
      none = λ k below empty.
          elim (same_or_not k index) [
            | inl here ↦ rw (here, get_or-set_same words index word 0 inside) (none (rw here at empty))
            | inr differ ↦ rw (get_or-set_other words index k word 0 differ) (sums.none k (omega (arith, size, below)) (sym (others k (omega (arith, size, below, few)) differ) ∙ empty))
          ];
      some = λ k below there.
          elim (same_or_not k index) [
            | inl here ↦ rw (here, get_or-set_same words index word 0 inside) (some (rw here at there))
            | inr differ ↦ rw (get_or-set_other words index k word 0 differ) (sums.some k (omega (arith, size, below)) (sym (others k (omega (arith, size, below, few)) differ) ∙ there))
          ];
      beyond = λ k past low. others k low (omega (arith, size, past, inside)) ∙ sums.beyond k (omega (arith, size, past)) low;
    }

-- where one bit of a word is put, no other bit changes
pub others_stay : (words : List ℕ) (place word : ℕ) → place / 64 < length words → ((other : ℕ) → other < 64 → other ≢ place % 64 → bit_at word other ≡ bit_at (get_or words (place / 64) 0) other)
    → (other : ℕ) → other ≢ place → bit_of (slice_set words (place / 64) word) other ≡ bit_of words other
others_stay words place word inside others other differ =
    elim (same_or_not (other / 64) (place / 64)) [
      | inl here ↦ rw here (ap (λ (n : ℕ). bit_at n (other % 64)) (get_or-set_same words (place / 64) word 0 inside) ∙ others (other % 64) (omega arith) (λ same. differ (omega (arith, here, same))))
      | inr away ↦ ap (λ (n : ℕ). bit_at n (other % 64)) (get_or-set_other words (place / 64) (other / 64) word 0 away)
    ]
