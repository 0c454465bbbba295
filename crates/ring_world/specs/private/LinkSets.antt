-- Sets of links as the bits of words, 64 to a word.
use Rattle.std.specs.Prelude.{◌≡◌, ◌≢◌, ◌+◌, ◌/◌, ◌%◌, ◌<◌, ◌≤◌, ◌==◌, ℕ, zero, suc, Bool, List, [], ◌∷◌, Option, Some, None, length, slice_index}
use Rattle.std.specs.Int.{bit_at}

-- the bit at a place; there is none past the last word
abbrev pub bit_of : List ℕ → ℕ → ℕ
bit_of words place = bit_at (slice_index words (place / 64)) (place % 64)

-- for n places from one on, whether their bits are set
abbrev pub bits_from : List ℕ → ℕ → ℕ → List Bool
bits_from words place zero = []
bits_from words place (suc n) = (bit_of words place == 1) ∷ bits_from words (place + 1) n

-- the first place with a bit
abbrev pub IsFirst : List ℕ → Option ℕ → Type 0
IsFirst words None = (place : ℕ) → bit_of words place ≡ 0
IsFirst words (Some place) = (bit_of words place ≡ 1) × ((other : ℕ) → other < place → bit_of words other ≡ 0)

-- a number whose bits say which words of a list aren't 0
pub record IsSummary (words : List ℕ) (summary : ℕ) : Type 0 where
  pub none : (index : ℕ) → index < length words → bit_at summary index ≡ 0 → slice_index words index ≡ 0
  pub some : (index : ℕ) → index < length words → bit_at summary index ≡ 1 → slice_index words index ≢ 0
  pub beyond : (index : ℕ) → length words ≤ index → index < 64 → bit_at summary index ≡ 0
