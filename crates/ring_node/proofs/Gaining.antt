-- The packets that a receipt adds to those that a node has sent and taken.
use Rattle.std.proofs.Common.{◌≡◌, ◌≤◌, ℕ, List, [], ◌∷◌, ◌++◌, length, Option, Some, None, ◌∙◌, length-append, arith}
use Rattle.std.proofs.lemmas.List.{append-nil}
use Rattle.ring_id.specs.declared.side.Side.{Side}
use Rattle.ring_id.specs.declared.side.Side.TheVariants.{Left, Right}
use Rattle.ring_id.specs.Sides.{other}
use Rattle.ring_election.specs.Tables.{Table, to_side}
use Rattle.ring_election.specs.Traces.{state_after, taken_from}
use Rattle.ring_node.specs.declared.packet.Packet.{Packet}
use Rattle.ring_node.specs.declared.packet.Packet.TheVariants.{Algo, Leader}
use Rattle.ring_node.specs.Journals.{algo_part, algo_sends, announcement, brought, known_after, news, packets_after}
use Rattle.ring_node.specs.Nodes.{Extends, Gains, Seated, member_of, receiving, sent_of}
use Rattle.ring_node.specs.Ports.{all_algos}
use Rattle.ring_node.proofs.Receipts.{packets_after-snoc, taken_from-snoc}

-- an algorithm sends at most one message to a side at a time
few_algos : {M : Type 0} (o : Option M) → length (all_algos o) ≤ 1
few_algos None = omega arith
few_algos (Some m) = omega arith

few_sends : {S M : Type 0} (t : Table S M) (to : Side) (s : S) (side : Side) (p : Packet M) → length (algo_sends t to s side p) ≤ 1
few_sends t to s side (Algo m) = few_algos (to_side to (t.next_sends s side m))
few_sends t to s side (Leader v) = omega arith

-- and a node announces at most one leader
few_announced : (M : Type 0) (to : Side) (o : Option ℕ) → length (announcement {M = M} to o) ≤ 1
few_announced M Left o = omega arith
few_announced M Right None = omega arith
few_announced M Right (Some v) = omega arith

-- a node that has received nothing has sent at most one packet to each side
pub few_first : {S M : Type 0} (t : Table S M) (me : ℕ) (to : Side) → length (packets_after t me to []) ≤ 1
few_first t me to = rw append-nil (few_algos (to_side to (t.first_sends me)))

-- the side of a receipt gains its packet
taken_more : {M : Type 0} (from : Side) (p : Packet M) (js : List (Side × Packet M)) → taken_from from (js ++ (from, p) ∷ []) ≡ taken_from from js ++ p ∷ []
taken_more Left p js = taken_from-snoc Left Left p js
taken_more Right p js = taken_from-snoc Right Right p js

-- the other side stays
taken_stays : {M : Type 0} (from : Side) (p : Packet M) (js : List (Side × Packet M)) → taken_from (other from) (js ++ (from, p) ∷ []) ≡ taken_from (other from) js
taken_stays Left p js = taken_from-snoc Right Left p js ∙ append-nil (taken_from Right js)
taken_stays Right p js = taken_from-snoc Left Right p js ∙ append-nil (taken_from Left js)

module _ {E S M : Type 0} (t : E → Table S M) (node : Seated E M) (from : Side) (packet : Packet M) where
  -- what is sent to the left is a message of the algorithm, if there is one
  left_gains : Extends (sent_of t node Left) 1 (sent_of t (receiving node from packet) Left)
  left_gains =
      let table : Table S M = t node.charter.algorithm in
      let sends : List (Packet M) = algo_sends table Left (state_after table (member_of node) (algo_part node.journal)) from packet in
      record {
        more = sends ++ [];
        behind = packets_after-snoc table (member_of node) Left node.journal from packet;
        few = omega (arith, length-append sends [], few_sends table Left (state_after table (member_of node) (algo_part node.journal)) from packet);
      }

  -- to the right the announcement may follow it
  right_gains : Extends (sent_of t node Right) 2 (sent_of t (receiving node from packet) Right)
  right_gains =
      let table : Table S M = t node.charter.algorithm in
      let state : S = state_after table (member_of node) (algo_part node.journal) in
      let sends : List (Packet M) = algo_sends table Right state from packet in
      let tells : List (Packet M) = announcement Right (news (known_after table (member_of node) node.journal) (brought table state from packet)) in
      record {
        more = sends ++ tells;
        behind = packets_after-snoc table (member_of node) Right node.journal from packet;
        few = omega (arith, length-append sends tells, few_sends table Right state from packet, few_announced M Right (news (known_after table (member_of node) node.journal) (brought table state from packet)));
      }

  -- what a receipt adds
  pub receiving_gains : Gains t node from packet (receiving node from packet)
  receiving_gains = record {
    left = left_gains;
    right = right_gains;
    taken = taken_more from packet node.journal;
    stays = taken_stays from packet node.journal;
  }
