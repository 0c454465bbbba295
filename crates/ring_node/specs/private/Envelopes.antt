-- The fact that a node keeps of all packets that it has sent.
use Rattle.std.specs.Prelude.{◌≡◌, ℕ, List, Some, slice_get, take}
use Rattle.ring_id.specs.declared.side.Side.{Side}
use Rattle.ring_election.specs.Families.{Fitting}
use Rattle.ring_node.specs.declared.packet.Packet.{Packet}
use Rattle.ring_node.specs.Envelopes.{index_after, IsSendable}

-- each of these packets, sent to a side by the node at a position, is sendable at its index
pub record AllSendable {M : Type 0} (fits : Fitting M) (winner : List ℕ → ℕ) (ring : List ℕ)
    (from : ℕ) (side : Side) (packets : List (Packet M)) : Type 0 where
  pub each : (k : ℕ) (p : Packet M) → slice_get packets k ≡ Some p
      → IsSendable fits winner ring from side (index_after (take k packets) p) p
