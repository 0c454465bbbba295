-- Facts that follow from a node's journal, the list of its receipts. Each receipt is a packet and
-- the side from which it came.
use Rattle.std.specs.Prelude.{◌+◌, ℕ, List, [], ◌∷◌, ◌++◌, Option, Some, None}
use Rattle.ring_id.specs.declared.side.Side.{Side}
use Rattle.ring_id.specs.declared.side.Side.TheVariants.{Left, Right}
use Rattle.ring_election.specs.Tables.{Table, to_side}
use Rattle.ring_node.specs.declared.packet.Packet.{Packet}
use Rattle.ring_node.specs.declared.packet.Packet.TheVariants.{Algo, Leader}
use Rattle.ring_node.specs.Ports.{all_algos, all_leaders}

-- the algorithm's receipt in a receipt, if there is one
abbrev pub algo_receipt : {M : Type 0} → Side → Packet M → List (Side × M)
algo_receipt side (Algo m) = (side, m) ∷ []
algo_receipt side (Leader v) = []

-- the algorithm's receipts; an announcement does not change the algorithm's state
abbrev pub algo_part : {M : Type 0} → List (Side × Packet M) → List (Side × M)
algo_part [] = []
algo_part (r ∷ rs) = algo_receipt r.0 r.1 ++ algo_part rs

-- how many packets are messages of the algorithm
abbrev pub algo_count : {M : Type 0} → List (Packet M) → ℕ
algo_count [] = 0
algo_count (Algo m ∷ ps) = algo_count ps + 1
algo_count (Leader v ∷ ps) = algo_count ps

-- how many packets are announcements
abbrev pub leader_count : {M : Type 0} → List (Packet M) → ℕ
leader_count [] = 0
leader_count (Algo m ∷ ps) = leader_count ps
leader_count (Leader v ∷ ps) = leader_count ps + 1

-- the leader known before, or else the one that comes in
abbrev pub kept_or : Option ℕ → Option ℕ → Option ℕ
kept_or None coming = coming
kept_or (Some v) coming = Some v

-- the leader known after a step, if none was known before it
abbrev pub news : Option ℕ → Option ℕ → Option ℕ
news None after = after
news (Some v) after = None

-- the announcement to the right of a leader that is news
abbrev pub announcement : {M : Type 0} → Side → Option ℕ → List (Packet M)
announcement Left leader = []
announcement Right leader = all_leaders leader

module _ {S M : Type 0} (t : Table S M) where
  -- the algorithm's state after a packet
  abbrev pub state_on : S → Side → Packet M → S
  state_on s side (Algo m) = t.next s side m
  state_on s side (Leader v) = s

  -- the leader that a packet brings: the algorithm's decision after it, or the announced one
  abbrev pub brought : S → Side → Packet M → Option ℕ
  brought s side (Algo m) = t.decided (t.next s side m)
  brought s side (Leader v) = Some v

  -- the algorithm's message to a side because of a packet
  abbrev pub algo_sends : Side → S → Side → Packet M → List (Packet M)
  algo_sends to s side (Algo m) = all_algos (to_side to (t.next_sends s side m))
  algo_sends to s side (Leader v) = []

  -- The leader that the node knows after these receipts, from a state and an earlier leader on: the
  -- first that was brought.
  abbrev pub known_from : S → Option ℕ → List (Side × Packet M) → Option ℕ
  known_from s known [] = known
  known_from s known (r ∷ rs) =
      known_from (state_on s r.0 r.1) (kept_or known (brought s r.0 r.1)) rs

  -- The packets to a side because of these receipts. They are the algorithm's messages, and the
  -- announcement to the right after those of the receipt by which the node first knows the leader.
  abbrev pub packets_from : Side → S → Option ℕ → List (Side × Packet M) → List (Packet M)
  packets_from to s known [] = []
  packets_from to s known (r ∷ rs) =
      (algo_sends to s r.0 r.1 ++ announcement to (news known (brought s r.0 r.1)))
      ++ packets_from to (state_on s r.0 r.1) (kept_or known (brought s r.0 r.1)) rs

  -- the leader that the node with identity `me` knows after its journal
  abbrev pub known_after : ℕ → List (Side × Packet M) → Option ℕ
  known_after me journal = known_from (t.first me) None journal

  -- all packets that it has sent to a side
  abbrev pub packets_after : ℕ → Side → List (Side × Packet M) → List (Packet M)
  packets_after me to journal =
      all_algos (to_side to (t.first_sends me)) ++ packets_from to (t.first me) None journal
