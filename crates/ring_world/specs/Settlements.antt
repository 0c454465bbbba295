-- Settled terms: nodes of a charter, one at each position of its ring, that have taken all packets
-- that were sent to them. An announcement may be taken before messages that were sent earlier on
-- its link. So each kind of packet is compared by itself.
use Rattle.std.specs.Prelude.{◌≡◌, ◌<◌, ℕ, List, length, Some, slice_get}
use Rattle.ring_id.specs.declared.side.Side.{Side}
use Rattle.ring_id.specs.Sides.{other}
use Rattle.ring_roster.specs.Ring.{neighbour}
use Rattle.ring_election.specs.Tables.{Table}
use Rattle.ring_node.specs.declared.charter.Charter.{Charter}
use Rattle.ring_node.specs.Nodes.{Seated, known_of, report_of, sent_of, taken_of}
use Rattle.ring_world.specs.declared.packet_kind.PacketKind.{PacketKind}
use Rattle.ring_world.specs.PacketKinds.{of_kind}

-- this node of the charter is at a position, and no other of these nodes of the charter is
pub record IsAlone {E M : Type 0} (charter : Charter E) (nodes : List (Seated E M)) (position : ℕ) (node : Seated E M) : Type 0 where
  pub place : ℕ
  pub there : slice_get nodes place ≡ Some node
  pub charter_is : node.charter ≡ charter
  pub position_is : node.position ≡ position
  pub alone : (k : ℕ) (another : Seated E M) → slice_get nodes k ≡ Some another → another.charter ≡ charter → another.position ≡ position → k ≡ place

module _ {E S M : Type 0} (t : E → Table S M) where
  -- a node has taken all that its neighbour at a side has sent to it, and that neighbour is alone
  pub record IsFed (charter : Charter E) (nodes : List (Seated E M)) (node : Seated E M) (side : Side) : Type 0 where
    pub sender : Seated E M
    pub alone : IsAlone charter nodes (neighbour (length charter.roster) node.position side) sender
    pub taken : (kind : PacketKind) → of_kind kind (taken_of node side) ≡ of_kind kind (sent_of t sender (other side))

  -- a position has one node, which has taken all that was sent to it
  pub record IsSettledAt (charter : Charter E) (nodes : List (Seated E M)) (position : ℕ) : Type 0 where
    pub node : Seated E M
    pub alone : IsAlone charter nodes position node
    pub fed : (side : Side) → IsFed charter nodes node side

  -- each position of the ring is settled
  pub record IsSettled (charter : Charter E) (nodes : List (Seated E M)) : Type 0 where
    pub each : (i : ℕ) → i < length charter.roster → IsSettledAt charter nodes i

  -- each of these nodes that is of the charter knows the leader, which is the winner of its ring
  pub record EachKnows (winner : E → List ℕ → ℕ) (charter : Charter E) (nodes : List (Seated E M)) : Type 0 where
    pub each : (k : ℕ) (node : Seated E M) → slice_get nodes k ≡ Some node → node.charter ≡ charter → known_of t node ≡ Some (winner charter.algorithm charter.roster)

  -- exactly one node is at a position, and it reports that its member knows the winner
  pub record HasReport (winner : E → List ℕ → ℕ) (charter : Charter E) (nodes : List (Seated E M)) (position member : ℕ) : Type 0 where
    pub node : Seated E M
    pub alone : IsAlone charter nodes position node
    pub reports : report_of t node ≡ Some (record { charter = charter; member = member; leader = winner charter.algorithm charter.roster })

  -- the node of each member of the ring reports so
  pub record EachReports (winner : E → List ℕ → ℕ) (charter : Charter E) (nodes : List (Seated E M)) : Type 0 where
    pub each : (i member : ℕ) → slice_get charter.roster i ≡ Some member → HasReport winner charter nodes i member
