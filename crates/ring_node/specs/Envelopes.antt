-- Envelopes: a packet on its way, with the link that it goes over and its index there.
use Rattle.std.specs.Prelude.{◌≡◌, ◌<◌, ℕ, List, length}
use Rattle.ring_id.specs.declared.side.Side.{Side}
use Rattle.ring_election.specs.Families.{Fitting}
use Rattle.ring_node.specs.declared.charter.Charter.{Charter}
use Rattle.ring_node.specs.declared.packet.Packet.{Packet}
use Rattle.ring_node.specs.declared.packet.Packet.TheVariants.{Algo, Leader}
use Rattle.ring_node.specs.Journals.{algo_count}

-- the content of an envelope: the charter, the sender's position and side, the index and the packet
pub record Sent (E M : Type 0) : Type 0 where
  pub charter : Charter E
  pub from : ℕ
  pub side : Side
  pub index : ℕ
  pub packet : Packet M

-- The index of a packet after these on a link. Messages of the algorithm are numbered among
-- themselves, and an announcement has index 0.
abbrev pub index_after : {M : Type 0} → List (Packet M) → Packet M → ℕ
index_after earlier (Algo m) = algo_count earlier
index_after earlier (Leader v) = 0

-- a message of the algorithm fits its link at this index; an announcement names the winner
abbrev pub IsProper : {M : Type 0} → Fitting M → (List ℕ → ℕ) → List ℕ → ℕ → Side → ℕ → Packet M
    → Type 0
IsProper fits winner ring from side index (Algo m) = fits ring from side index m
IsProper fits winner ring from side index (Leader v) = (v ≡ winner ring) × (index ≡ 0)

-- the sender is on the ring, and its packet is proper
pub record IsSendable {M : Type 0} (fits : Fitting M) (winner : List ℕ → ℕ) (ring : List ℕ)
    (from : ℕ) (side : Side) (index : ℕ) (packet : Packet M) : Type 0 where
  pub inside : from < length ring
  pub proper : IsProper fits winner ring from side index packet
