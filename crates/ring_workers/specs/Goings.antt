-- Goings: the change of nodes while a worker handles an item, and the packets that they send.
use Rattle.std.specs.Prelude.{◌≡◌, ℕ, List, Some, slice_get, take}
use Rattle.ring_id.specs.declared.side.Side.{Side}
use Rattle.ring_id.specs.Sides.{other}
use Rattle.ring_election.specs.Tables.{Table}
use Rattle.ring_node.specs.Envelopes.{Sent}
use Rattle.ring_node.specs.Nodes.{IsForNode, IsNext, Seated, envelope_of, taken_of}
use Rattle.ring_workers.specs.Lists.{IsOneOf}

-- among these nodes is the one to which the envelope's link leads, and it took that packet from
-- that link, with that index
pub record HasReceived {E M : Type 0} (nodes : List (Seated E M)) (envelope : Sent E M) : Type 0 where
  pub node : Seated E M
  pub there : IsOneOf nodes node
  pub led : IsForNode node envelope
  pub place : ℕ
  pub taken : slice_get (taken_of node (other envelope.side)) place ≡ Some envelope.packet
  pub index : IsNext (take place (taken_of node (other envelope.side))) envelope.index envelope.packet

module _ {E S M : Type 0} (t : E → Table S M) where
  -- the envelope is of a packet that the node has sent
  pub record IsSent (node : Seated E M) (envelope : Sent E M) : Type 0 where
    pub side : Side
    pub place : ℕ
    pub sent : envelope_of t node side place ≡ Some envelope
