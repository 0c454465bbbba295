-- Files that a crash may leave, and bytes that none leaves.
use Rattle.std.specs.Prelude.{◌≡◌, ◌≢◌, ◌<◌, ◌≤◌, ℕ, ◌+◌, List, All, length, drop, slice_index}
use Rattle.ring_journal.specs.Lines.{front}

-- Only zeros are 65536 bytes or more after the first zero.
abbrev pub IsWhole : List ℕ → Type 0
IsWhole found = All (λ byte. byte ≡ 0) (drop (length (front found) + 65536) found)

-- The byte at this place is the first that is not a zero and is 65536 bytes or more after the first
-- zero.
pub record IsBadAt (found : List ℕ) (at : ℕ) : Type 0 where
  pub inside : at < length found
  pub far : length (front found) + 65536 ≤ at
  pub byte : slice_index found at ≢ 0
  pub first : (k : ℕ) → length (front found) + 65536 ≤ k → k < at → slice_index found k ≡ 0
