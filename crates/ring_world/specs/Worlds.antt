-- Worlds: the journals of all nodes of a term, which links between them are cut, and the packets in
-- flight. These follow from whole journals: no queue and no count is in these definitions.
use Rattle.std.specs.Prelude.{◌≡◌, ◌+◌, ◌*◌, ◌<◌, ◌≤◌, ◌⊎◌, ℕ, zero, suc, Bool, true, false, if◌then◌else◌, nat_lt, List, [], ◌∷◌, ◌++◌, length, drop, replicate, Option, Some, None, Result, Ok, Err, slice_set, slice_index_or}
use Rattle.ring_id.specs.declared.refusal.Refusal.{Refusal}
use Rattle.ring_id.specs.declared.side.Side.{Side}
use Rattle.ring_id.specs.declared.side.Side.TheVariants.{Left, Right}
use Rattle.ring_id.specs.Refusals.{IsRefusal}
use Rattle.ring_id.specs.Sides.{other}
use Rattle.ring_roster.specs.Ring.{IsRing, neighbour}
use Rattle.ring_election.specs.Tables.{Table}
use Rattle.ring_election.specs.Families.{Fitting}
use Rattle.ring_node.specs.declared.charter.Charter.{Charter}
use Rattle.ring_node.specs.declared.packet.Packet.{Packet}
use Rattle.ring_node.specs.declared.packet.Packet.TheVariants.{Algo, Leader}
use Rattle.ring_node.specs.Links.{link_refusal}
use Rattle.ring_node.specs.Nodes.{IsFaithful, Seated, news_of, receiving, sent_of, taken_of, told_of}
use Rattle.ring_node.specs.Reports.{Told}
use Rattle.ring_world.specs.declared.delivery.Delivery.{Delivery}
use Rattle.ring_world.specs.declared.delivery.Delivery.TheVariants.{Moved, Idle, Refused}
use Rattle.ring_world.specs.declared.passage.Passage.{Passage}
use Rattle.ring_world.specs.declared.passage.Passage.TheVariants as passage
use Rattle.ring_world.specs.declared.passage.Passages.{Passages}
use Rattle.ring_world.specs.declared.passage.PassagesEnd.{PassagesEnd}
use Rattle.ring_world.specs.declared.passage.PassagesEnd.TheVariants as ended

-- The place of a link in the order of links. A link is named by its receiver, that position and the
-- side from which it takes: the position counts first, and left comes before right.
abbrev pub link_place : ℕ → Side → ℕ
link_place i Left = 2 * i
link_place i Right = 2 * i + 1

-- a term that runs: its charter, the journal of each position of its ring, and for each link in the
-- order of links whether it is cut
pub record Running (E M : Type 0) : Type 0 where
  pub charter : Charter E
  pub journals : List (List (Side × Packet M))
  pub cut : List Bool

-- the length of its ring
abbrev pub size_of : {E M : Type 0} → Running E M → ℕ
size_of world = length world.charter.roster

-- the node at a position
abbrev pub node_at : {E M : Type 0} → Running E M → ℕ → Seated E M
node_at world i = record { charter = world.charter; position = i; journal = slice_index_or world.journals i [] }

-- the nodes of a charter with these journals, from a position on
abbrev pub nodes_from : {E M : Type 0} → Charter E → ℕ → List (List (Side × Packet M)) → List (Seated E M)
nodes_from charter i [] = []
nodes_from charter i (journal ∷ journals) = record { charter = charter; position = i; journal = journal } ∷ nodes_from charter (i + 1) journals

-- the node of each position, in order
abbrev pub nodes_of : {E M : Type 0} → Running E M → List (Seated E M)
nodes_of world = nodes_from world.charter 0 world.journals

-- the same world after one more receipt at a position
abbrev pub after_receipt : {E M : Type 0} → Running E M → ℕ → Side → Packet M → Running E M
after_receipt world i side packet = record world { journals = slice_set world.journals i ((receiving (node_at world i) side packet).journal) }

-- no link of a ring of this length is cut
abbrev pub no_cuts : ℕ → List Bool
no_cuts n = replicate (2 * n) false

-- whether a link is cut
abbrev pub is_cut : {E M : Type 0} → Running E M → ℕ → Side → Bool
is_cut world i side = slice_index_or world.cut (link_place i side) false

-- the same world with one link more that is cut
abbrev pub after_cut : {E M : Type 0} → Running E M → ℕ → Side → Running E M
after_cut world i side = record world { cut = slice_set world.cut (link_place i side) true }

-- no link of the ring is cut
pub record IsUncut {E M : Type 0} (world : Running E M) : Type 0 where
  pub uncut : (i : ℕ) (side : Side) → i < size_of world → is_cut world i side ≡ false

-- the result of `cut`, and the world after it
abbrev pub Cuts : {E M : Type 0} → Bool → Running E M → ℕ → Side → Result (Unit {0}) Refusal → Running E M → Type 0
Cuts two_way old i side (Ok done) new = (link_refusal two_way side ≡ None) × (new ≡ after_cut old i side)
Cuts two_way old i side (Err refusal) new = (link_refusal two_way side ≡ Some refusal) × (new ≡ old)

-- how many packets were received in all
abbrev pub receipts_in : {M : Type 0} → List (List (Side × Packet M)) → ℕ
receipts_in [] = 0
receipts_in (journal ∷ journals) = length journal + receipts_in journals

abbrev pub delivered_of : {E M : Type 0} → Running E M → ℕ
delivered_of world = receipts_in world.journals

-- how many announcements a node has received
abbrev pub announced_in : {M : Type 0} → List (Side × Packet M) → ℕ
announced_in [] = 0
announced_in ((side, Algo m) ∷ receipts) = announced_in receipts
announced_in ((side, Leader v) ∷ receipts) = announced_in receipts + 1

-- how many announcements were received in all
abbrev pub announcements_in : {M : Type 0} → List (List (Side × Packet M)) → ℕ
announcements_in [] = 0
announcements_in (journal ∷ journals) = announced_in journal + announcements_in journals

abbrev pub announcements_of : {E M : Type 0} → Running E M → ℕ
announcements_of world = announcements_in world.journals

-- the most packets that can be received: the messages that the algorithm's bound allows on such a
-- ring, and one announcement for each position
abbrev pub most_deliveries : {E M : Type 0} → (E → ℕ → ℕ) → Running E M → ℕ
most_deliveries bound world = bound world.charter.algorithm (size_of world) + size_of world

module _ {E S M : Type 0} (t : E → Table S M) where
  -- the packets that were sent on a link
  abbrev pub sent_into : Running E M → ℕ → Side → List (Packet M)
  sent_into world i side = sent_of t (node_at world (neighbour (size_of world) i side)) (other side)

  -- the packets that were taken from it
  abbrev pub taken_at : Running E M → ℕ → Side → List (Packet M)
  taken_at world i side = taken_of (node_at world i) side

  -- the packets on it: those that were sent, without as many from the front as were taken
  abbrev pub on_link : Running E M → ℕ → Side → List (Packet M)
  on_link world i side = drop (length (taken_at world i side)) (sent_into world i side)

  -- the packets in flight on it, which can move: those on the link, if it isn't cut
  abbrev pub in_flight : Running E M → ℕ → Side → List (Packet M)
  in_flight world i side = if is_cut world i side then [] else on_link world i side

  -- the packets stuck on it: those on the link, if it is cut
  abbrev pub stuck_on : Running E M → ℕ → Side → List (Packet M)
  stuck_on world i side = if is_cut world i side then on_link world i side else []

  -- how many packets are in flight on a link or stuck there
  abbrev pub pending_on : Running E M → ℕ → Side → ℕ
  pending_on world i side = length (in_flight world i side) + length (stuck_on world i side)

  -- how many they are on the links into the positions below n
  abbrev pub pending_below : Running E M → ℕ → ℕ
  pending_below world zero = 0
  pending_below world (suc n) = pending_below world n + (pending_on world n Left + pending_on world n Right)

  -- how many packets are in flight or stuck in all
  abbrev pub pending_of : Running E M → ℕ
  pending_of world = pending_below world (size_of world)

  -- each link's receiver took a prefix of the packets that were sent there
  pub record IsSoundLinks (world : Running E M) : Type 0 where
    pub taken_first : (i : ℕ) (side : Side) → i < size_of world → taken_at world i side ++ on_link world i side ≡ sent_into world i side

  -- At every moment the journals are a sound family that fits, and a leader that a node knows is
  -- the winner.
  pub record IsSoundWorld (fits : E → Fitting M) (winner : E → List ℕ → ℕ) (world : Running E M) : Type 0 where
    pub is_ring : IsRing world.charter.roster
    pub count : length world.journals ≡ size_of world
    pub each_link : length world.cut ≡ 2 * size_of world
    pub links : IsSoundLinks world
    pub faithful : (i : ℕ) → i < size_of world → IsFaithful t fits winner (node_at world i)

  -- the first packet in flight on a link is taken, and no other journal changes
  pub record HasMoved (old : Running E M) (i : ℕ) (side : Side) (report : Option (Told E)) (new : Running E M) : Type 0 where
    pub packet : Packet M
    pub rest : List (Packet M)
    pub front : in_flight old i side ≡ packet ∷ rest
    pub journals : new ≡ after_receipt old i side packet
    pub report_is : report ≡ told_of t (node_at old i) (node_at new i)

  -- the result of `deliver`, and the world after it
  abbrev pub Delivers : Bool → Running E M → ℕ → Side → Delivery E M S → Running E M → Type 0
  Delivers two_way old i side (Moved report) new = (link_refusal two_way side ≡ None) × HasMoved old i side report new
  Delivers two_way old i side Idle new = (link_refusal two_way side ≡ None) × (in_flight old i side ≡ []) × (new ≡ old)
  Delivers two_way old i side (Refused refusal) new = IsRefusal (link_refusal two_way side) (nat_lt 0 (length (in_flight old i side))) refusal × (new ≡ old)

  -- the first packet in flight on a link is taken, no other journal changes, and the leader is news
  -- to the receiver
  pub record HasPassed (old : Running E M) (i : ℕ) (side : Side) (leader : Option ℕ) (new : Running E M) : Type 0 where
    pub packet : Packet M
    pub rest : List (Packet M)
    pub front : in_flight old i side ≡ packet ∷ rest
    pub journals : new ≡ after_receipt old i side packet
    pub leader_is : leader ≡ news_of t (node_at old i) (node_at new i)

  -- The result of `pass`, and the traffic after it. A packet moves only if a report of its news may
  -- be made. If it may not, the result is no-memory.
  abbrev pub Passes : Bool → Bool → Running E M → ℕ → Side → Passage → Running E M → Type 0
  Passes two_way may_tell old i side (passage.Moved leader) new = (link_refusal two_way side ≡ None) × (may_tell ≡ true) × HasPassed old i side leader new
  Passes two_way may_tell old i side passage.Idle new = (link_refusal two_way side ≡ None) × (in_flight old i side ≡ []) × (new ≡ old)
  Passes two_way may_tell old i side (passage.Refused refusal) new = IsRefusal (link_refusal two_way side) (nat_lt 0 (length (in_flight old i side))) refusal × (new ≡ old)

  -- a link comes before another: its receiver's position is less, or it is the left link of the
  -- same
  abbrev pub IsBefore : ℕ → Side → ℕ → Side → Type 0
  IsBefore j from i side = (j < i) ⊎ ((j ≡ i) × (from ≡ Left) × (side ≡ Right))

  -- the first link with something in flight
  pub record IsFirstLink (world : Running E M) (i : ℕ) (side : Side) : Type 0 where
    pub inside : i < size_of world
    pub waits : 0 < length (in_flight world i side)
    pub least : (j : ℕ) (from : Side) → IsBefore j from i side → in_flight world j from ≡ []

  -- the result of `ready`
  abbrev pub IsReady : Running E M → Option (ℕ × Side) → Type 0
  IsReady world None = (i : ℕ) (side : Side) → i < size_of world → in_flight world i side ≡ []
  IsReady world (Some link) = IsFirstLink world link.0 link.1

  -- the first packet in flight on the first link passes to its receiver, at position `i`, and the
  -- world is sound then
  pub record HasPassedFirst (fits : E → Fitting M) (winner : E → List ℕ → ℕ) (old : Running E M) (i : ℕ) (leader : Option ℕ) (new : Running E M) : Type 0 where
    pub side : Side
    pub first : IsFirstLink old i side
    pub passed : HasPassed old i side leader new
    pub sound : IsSoundWorld fits winner new

  -- packets pass one after another, each on the link that is first at that moment, and no node
  -- learns the leader
  abbrev pub PassesSilently : (E → Fitting M) → (E → List ℕ → ℕ) → Running E M → ℕ → Running E M → Type 0
  PassesSilently fits winner old zero new = new ≡ old
  PassesSilently fits winner old (suc n) new = (mid : Running E M) × (i : ℕ) × PassesSilently fits winner old n mid × HasPassedFirst fits winner mid i None new

  -- The end of `done` passages: by the last, and no other, the node at a position learnt the
  -- leader. Else no node learnt it, and all are made, or nothing is in flight, or an allocation
  -- failed at one that was still to be made.
  abbrev pub EndsPassages : (E → Fitting M) → (E → List ℕ → ℕ) → ℕ → Running E M → ℕ → PassagesEnd → Running E M → Type 0
  EndsPassages fits winner most old done (ended.Told i leader) new =
      (n : ℕ) × (mid : Running E M) × (done ≡ suc n) × PassesSilently fits winner old n mid × HasPassedFirst fits winner mid i (Some leader) new
  EndsPassages fits winner most old done ended.Made new = (done ≡ most) × PassesSilently fits winner old done new
  EndsPassages fits winner most old done ended.Quiet new = PassesSilently fits winner old done new × IsReady new None
  EndsPassages fits winner most old done ended.Starved new = (done < most) × PassesSilently fits winner old done new × (i : ℕ) × (side : Side) × IsFirstLink new i side

  -- the result of `pass_ready`, and the traffic after it
  pub record PassesReady (fits : E → Fitting M) (winner : E → List ℕ → ℕ) (most : ℕ) (old : Running E M) (result : Passages) (new : Running E M) : Type 0 where
    pub within : result.done ≤ most
    pub ends : EndsPassages fits winner most old result.done result.end new
