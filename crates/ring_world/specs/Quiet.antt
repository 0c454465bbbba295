-- Quiet worlds: nothing is in flight. If no link is cut, or nothing is stuck, every node of a quiet
-- world knows the leader.
use Rattle.std.specs.Prelude.{◌≡◌, ◌<◌, ℕ, List, [], Some}
use Rattle.ring_id.specs.declared.side.Side.{Side}
use Rattle.ring_election.specs.Tables.{Table}
use Rattle.ring_node.specs.Nodes.{known_of}
use Rattle.ring_world.specs.Worlds.{Running, in_flight, node_at, on_link, size_of}

-- nothing is in flight on any link
pub record IsQuiet {E S M : Type 0} (t : E → Table S M) (world : Running E M) : Type 0 where
  pub idle : (i : ℕ) (side : Side) → i < size_of world → in_flight t world i side ≡ []

-- nothing is in flight on any link, and nothing is stuck there: all that was sent was taken
pub record IsEmptied {E S M : Type 0} (t : E → Table S M) (world : Running E M) : Type 0 where
  pub taken : (i : ℕ) (side : Side) → i < size_of world → on_link t world i side ≡ []

-- each node knows the leader, which is the winner of the ring
pub record AllKnow {E S M : Type 0} (t : E → Table S M) (winner : E → List ℕ → ℕ) (world : Running E M) : Type 0 where
  pub each : (i : ℕ) → i < size_of world → known_of t (node_at world i) ≡ Some (winner world.charter.algorithm world.charter.roster)
