-- Two words give a number, and a number gives both.
use Rattle.std.specs.Prelude.{◌≡◌, ◌<◌, ℕ}
use Rattle.std.proofs.Common.{arith}
use Rattle.ring_events.specs.Words.{high_of, low_of, words}

-- the high word of a number is the word that it was made of
pub high_of-words : (high low : ℕ) → low < 18446744073709551616 → high_of (words high low) ≡ high
high_of-words high low below = omega arith

-- the low word of a number is the word that it was made of
pub low_of-words : (high low : ℕ) → low < 18446744073709551616 → low_of (words high low) ≡ low
low_of-words high low below = omega arith
