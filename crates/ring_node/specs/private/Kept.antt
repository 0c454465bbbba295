-- The invariant of a node's type: its fields follow from its journal, and all messages that it took
-- fit the ring.
use Rattle.std.specs.Prelude.{◌≡◌, ℕ, List, [], ◌∷◌, Option, Some, slice_get}
use Rattle.ring_id.specs.declared.side.Side.{Side}
use Rattle.ring_id.specs.declared.side.Side.TheVariants.{Left, Right}
use Rattle.ring_roster.specs.Ring.{IsRing}
use Rattle.ring_election.specs.Families.{AllFit, Fitting}
use Rattle.ring_election.specs.Tables.{Table}
use Rattle.ring_election.specs.Traces.{state_after, taken_from}
use Rattle.ring_node.specs.declared.packet.Packet.{Packet}
use Rattle.ring_node.specs.declared.packet.Packet.TheVariants.{Algo, Leader}
use Rattle.ring_node.specs.declared.port.Port.{Port}
use Rattle.ring_node.specs.Journals.{algo_count, algo_part, known_after, leader_count, packets_after}

-- a port holds the packets sent at its side, and the numbers of those taken there
pub record IsPort {M : Type 0} (sent taken : List (Packet M)) (port : Port M) : Type 0 where
  pub sent_is : port.sent.items ≡ sent
  pub algos_is : port.algos ≡ algo_count taken
  pub leaders_is : port.leaders ≡ leader_count taken

-- each announcement among these packets names this leader
abbrev pub AllName : {M : Type 0} → ℕ → List (Packet M) → Type 0
AllName leader [] = Unit {0}
AllName leader (Algo m ∷ ps) = AllName leader ps
AllName leader (Leader v ∷ ps) = (v ≡ leader) × AllName leader ps

pub record IsSeated {S M : Type 0} (t : Table S M) (fits : Fitting M) (winner : List ℕ → ℕ)
    (ring : List ℕ) (position me : ℕ) (state : S) (journal : List (Side × Packet M))
    (left right : Port M) (known : Option ℕ) : Type 0 where
  pub is_ring : IsRing ring
  pub here : slice_get ring position ≡ Some me
  pub state_is : state ≡ state_after t me (algo_part journal)
  pub known_is : known ≡ known_after t me journal
  pub left_is : IsPort (packets_after t me Left journal) (taken_from Left journal) left
  pub right_is : IsPort (packets_after t me Right journal) (taken_from Right journal) right
  -- The messages that the algorithm took fit. So, by the laws, the messages that it sends fit, and
  -- it decides only on the winner.
  pub fitting : AllFit fits ring position (algo_part journal)
  -- the known leader is the winner
  pub knows : (v : ℕ) → known ≡ Some v → v ≡ winner ring
  -- the announced leader is the winner
  pub names : (to : Side) → AllName (winner ring) (packets_after t me to journal)
