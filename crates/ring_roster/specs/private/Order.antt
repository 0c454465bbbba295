-- The positions of a ring in the order of its members' numbers, by which a member is looked up.
use Rattle.std.specs.Prelude.{ℕ, ◌<◌, List, length, slice_index, All, Contains}
use Rattle.std.specs.List.Sorted.{IsNonDecreasingBy}
use Rattle.ring_id.specs.Identity.{number_of}

-- the number at this position; 0 past the last
abbrev pub number_at : List ℕ → ℕ → ℕ
number_at ring position = number_of (slice_index ring position)

-- All positions of a ring, in the order of the numbers of their members.
pub record IsOrder (ring order : List ℕ) : Type 0 where
  pub rising : IsNonDecreasingBy (number_at ring) order
  pub sound : All (λ position. position < length ring) order
  pub complete : (position : ℕ) → position < length ring → Contains order position
