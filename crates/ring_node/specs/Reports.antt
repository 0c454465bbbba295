-- Reports: which member knows which leader of which term.
use Rattle.std.specs.Prelude.{◌≡◌, ℕ, List, Some, slice_get}
use Rattle.ring_roster.specs.Ring.{IsRing}
use Rattle.ring_node.specs.declared.charter.Charter.{Charter}

-- the content of a report
pub record Told (E : Type 0) : Type 0 where
  pub charter : Charter E
  pub member : ℕ
  pub leader : ℕ

-- the member is in the ring, and the leader is the ring's winner
pub record IsTruthful (winner : List ℕ → ℕ) (ring : List ℕ) (member leader : ℕ) : Type 0 where
  pub is_ring : IsRing ring
  pub inside : (i : ℕ) × (slice_get ring i ≡ Some member)
  pub wins : leader ≡ winner ring
