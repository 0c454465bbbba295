-- Nodes: the value of a node, and the possible results of `take`.
use Rattle.std.specs.Prelude.{◌≡◌, ◌<◌, ◌≤◌, ℕ, List, [], ◌∷◌, ◌++◌, length, take, Option, Some, option_map, Result, Ok, Err, slice_get, slice_index}
use Rattle.ring_id.specs.declared.side.Side.{Side}
use Rattle.ring_id.specs.declared.side.Side.TheVariants.{Left, Right}
use Rattle.ring_id.specs.Sides.{other}
use Rattle.ring_roster.specs.Ring.{IsRing, neighbour}
use Rattle.ring_election.specs.Families.{AllFit, Fitting}
use Rattle.ring_election.specs.Tables.{Table}
use Rattle.ring_election.specs.Traces.{taken_from}
use Rattle.ring_node.specs.declared.charter.Charter.{Charter}
use Rattle.ring_node.specs.declared.packet.Packet.{Packet}
use Rattle.ring_node.specs.declared.packet.Packet.TheVariants.{Algo, Leader}
use Rattle.ring_node.specs.declared.fault.TakeFault.{TakeFault}
use Rattle.ring_node.specs.declared.fault.TakeFault.TheVariants.{Stranger, Repeat, Gap, NoMemory}
use Rattle.ring_node.specs.Envelopes.{IsProper, IsSendable, Sent, index_after}
use Rattle.ring_node.specs.Journals.{algo_count, algo_part, known_after, leader_count, news, packets_after}
use Rattle.ring_node.specs.Reports.{Told}

-- a node of a term: its position on the charter's ring, and its receipts in order
pub record Seated (E M : Type 0) : Type 0 where
  pub charter : Charter E
  pub position : ℕ
  pub journal : List (Side × Packet M)

-- its identity
abbrev pub member_of : {E M : Type 0} → Seated E M → ℕ
member_of node = slice_index node.charter.roster node.position

-- the same node after one more receipt
abbrev pub receiving : {E M : Type 0} → Seated E M → Side → Packet M → Seated E M
receiving node side packet = record node { journal = node.journal ++ (side, packet) ∷ [] }

-- the packets that it has taken from a side
abbrev pub taken_of : {E M : Type 0} → Seated E M → Side → List (Packet M)
taken_of node side = taken_from side node.journal

-- the index at which it takes the next such packet from a side
abbrev pub next_index : {E M : Type 0} → Seated E M → Side → Packet M → ℕ
next_index node side packet = index_after (taken_of node side) packet

-- the next packet to a node from a side is proper on its link
abbrev pub IsComing : {E M : Type 0} → (E → Fitting M) → (E → List ℕ → ℕ) → Seated E M → Side
    → Packet M → Type 0
IsComing fits winner node from packet =
    let c = node.charter in
    IsProper (fits c.algorithm) (winner c.algorithm) c.roster
    (neighbour (length c.roster) node.position from) (other from) (next_index node from packet)
    packet

module _ {E S M : Type 0} (t : E → Table S M) where
  -- the leader that it knows
  abbrev pub known_of : Seated E M → Option ℕ
  known_of node = known_after (t node.charter.algorithm) (member_of node) node.journal

  -- all packets that it has sent to a side
  abbrev pub sent_of : Seated E M → Side → List (Packet M)
  sent_of node side = packets_after (t node.charter.algorithm) (member_of node) side node.journal

  -- the leader that it knows after a step and did not know before
  abbrev pub news_of : Seated E M → Seated E M → Option ℕ
  news_of old new = news (known_of old) (known_of new)

  -- its report of a step: there if and only if the step is the first by which it knows the leader
  abbrev pub told_of : Seated E M → Seated E M → Option (Told E)
  told_of old new =
      option_map (λ v. record { charter = old.charter; member = member_of old; leader = v })
      (news_of old new)

  -- its report of itself: there if and only if it knows the leader
  abbrev pub report_of : Seated E M → Option (Told E)
  report_of node =
      option_map (λ v. record { charter = node.charter; member = member_of node; leader = v })
      (known_of node)

  -- the envelope of the packet that it sent to a side at that place
  abbrev pub envelope_of : Seated E M → Side → ℕ → Option (Sent E M)
  envelope_of node side place =
      option_map
      (λ packet. record {
        charter = node.charter;
        from = node.position;
        side = side;
        index = index_after (take place (sent_of node side)) packet;
        packet = packet;
      })
      (slice_get (sent_of node side) place)

  -- the packet that it sent to a side at that place may be sent there
  abbrev pub IsSentWell : (E → Fitting M) → (E → List ℕ → ℕ) → Seated E M → Side → ℕ → Packet M
      → Type 0
  IsSentWell fits winner node side place packet =
      let c = node.charter in
      IsSendable (fits c.algorithm) (winner c.algorithm) c.roster node.position side
      (index_after (take place (sent_of node side)) packet) packet

-- these packets, followed by at most `most` more
pub record Extends {M : Type 0} (old : List (Packet M)) (most : ℕ) (new : List (Packet M))
    : Type 0 where
  pub more : List (Packet M)
  pub behind : new ≡ old ++ more
  pub few : length more ≤ most

-- The changes of a receipt. The packets sent to a side stay, followed by at most one more to the
-- left and at most two to the right. The packets taken from the receipt's side gain this one, and
-- those taken from the other side stay.
pub record Gains {E S M : Type 0} (t : E → Table S M) (old : Seated E M) (from : Side)
    (packet : Packet M) (new : Seated E M) : Type 0 where
  pub left : Extends (sent_of t old Left) 1 (sent_of t new Left)
  pub right : Extends (sent_of t old Right) 2 (sent_of t new Right)
  pub taken : taken_of new from ≡ taken_of old from ++ packet ∷ []
  pub stays : taken_of new (other from) ≡ taken_of old (other from)

-- a node has sent at most one packet to each side
pub record HasSentFew {E S M : Type 0} (t : E → Table S M) (node : Seated E M) : Type 0 where
  pub each : (side : Side) → length (sent_of t node side) ≤ 1

-- all messages that a node took fit its ring, and the leader that it knows is the ring's winner
pub record IsFaithful {E S M : Type 0} (t : E → Table S M) (fits : E → Fitting M)
    (winner : E → List ℕ → ℕ) (node : Seated E M) : Type 0 where
  pub is_ring : IsRing node.charter.roster
  pub inside : node.position < length node.charter.roster
  pub fitting : AllFit (fits node.charter.algorithm) node.charter.roster node.position
      (algo_part node.journal)
  pub knows : (v : ℕ) → known_of t node ≡ Some v
      → v ≡ winner node.charter.algorithm node.charter.roster

-- the envelope is of this node's term, and its link leads to this node
pub record IsForNode {E M : Type 0} (node : Seated E M) (envelope : Sent E M) : Type 0 where
  pub charter : envelope.charter ≡ node.charter
  pub link : neighbour (length envelope.charter.roster) envelope.from envelope.side ≡ node.position

-- whether a packet with that index was taken before, among those taken from its link
abbrev pub IsRepeated : {M : Type 0} → List (Packet M) → ℕ → Packet M → Type 0
IsRepeated taken index (Algo m) = index < algo_count taken
IsRepeated taken index (Leader v) = 0 < leader_count taken

-- whether packets before it have not been taken yet; an announcement never leaves a gap
abbrev pub IsEarly : {M : Type 0} → List (Packet M) → ℕ → Packet M → Type 0
IsEarly taken index (Algo m) = algo_count taken < index
IsEarly taken index (Leader v) = ⊥

-- whether it is the next of its sort
abbrev pub IsNext : {M : Type 0} → List (Packet M) → ℕ → Packet M → Type 0
IsNext taken index (Algo m) = index ≡ algo_count taken
IsNext taken index (Leader v) = leader_count taken ≡ 0

-- why a node does not take an envelope: each fault if and only if none before it holds
abbrev pub IsFault : {E M : Type 0} → Seated E M → Sent E M → TakeFault → Type 0
IsFault node envelope Stranger = IsForNode node envelope → ⊥
IsFault node envelope Repeat =
    IsForNode node envelope
    × IsRepeated (taken_of node (other envelope.side)) envelope.index envelope.packet
IsFault node envelope Gap =
    IsForNode node envelope
    × IsEarly (taken_of node (other envelope.side)) envelope.index envelope.packet
IsFault node envelope NoMemory =
    IsForNode node envelope
    × IsNext (taken_of node (other envelope.side)) envelope.index envelope.packet

-- The node takes an envelope. It is for this node and the next of its sort, and the journal gains
-- it. The report is there if and only if this is the first receipt by which the node knows the
-- leader.
pub record HasTaken {E S M : Type 0} (t : E → Table S M) (old : Seated E M) (envelope : Sent E M)
    (report : Option (Told E)) (new : Seated E M) : Type 0 where
  pub here : IsForNode old envelope
  pub next : IsNext (taken_of old (other envelope.side)) envelope.index envelope.packet
  pub journal : new ≡ receiving old (other envelope.side) envelope.packet
  pub report_is : report ≡ told_of t old new

-- A fault returns the envelope and leaves the node unchanged.
pub record HasReturned {E M : Type 0} (old : Seated E M) (envelope : Sent E M) (fault : TakeFault)
    (back : Sent E M) (new : Seated E M) : Type 0 where
  pub why : IsFault old envelope fault
  pub back_is : back ≡ envelope
  pub unchanged : new ≡ old

-- the result of `take`, and the node after it
abbrev pub Takes : {E S M : Type 0} → (E → Table S M) → Seated E M → Sent E M
    → Result (Option (Told E)) (TakeFault × Sent E M) → Seated E M → Type 0
Takes t old envelope (Ok report) new = HasTaken t old envelope report new
Takes t old envelope (Err fault) new = HasReturned old envelope fault.0 fault.1 new
