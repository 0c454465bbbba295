-- A delivery keeps a world sound: the receiver's journal gains the front packet of its link, what it
-- sends because of it comes last on its links, and nothing else changes.
use Rattle.std.proofs.Common.{◌≡◌, ◌≢◌, ◌+◌, ◌<◌, ℕ, Bool, true, false, cond, List, [], ◌∷◌, ◌++◌, length, drop, Some, slice_get, slice_set, get_or, refl, sym, ap, ◌∙◌, append_assoc, arith, inl, inr, get_or-set_other, get_or-set_same}
use Rattle.std.proofs.lemmas.List.{append-nil}
use Rattle.std.proofs.Math.ListN.{length-set}
use Rattle.ring_id.specs.declared.side.Side.{Side}
use Rattle.ring_id.specs.declared.side.Side.TheVariants.{Left, Right}
use Rattle.ring_id.specs.Sides.{other, same_side}
use Rattle.ring_roster.specs.Ring.{neighbour}
use Rattle.ring_election.specs.Tables.{Table}
use Rattle.ring_election.specs.Families.{Fitting}
use Rattle.ring_node.specs.declared.charter.Charter.{Charter}
use Rattle.ring_node.specs.declared.packet.Packet.{Packet}
use Rattle.ring_node.specs.Nodes.{IsFaithful, Seated, member_of, news_of, receiving, sent_of, taken_of}
use Rattle.ring_node.proofs.Receipts.{packets_after-snoc, taken_from-snoc}
use Rattle.ring_world.specs.Worlds.{IsSoundLinks, IsSoundWorld, Running, after_receipt, on_link, node_at, nodes_from, sent_into, size_of, taken_at}
use Rattle.ring_world.specs.private.Worlds.{IsWorld, journals_of}
use Rattle.ring_world.proofs.Links.{first_part, front_first, journals_of-set, length-journals_of, node_of_world, nodes_from-set, same_or_not}

-- a link whose sender sent more
more_sent : {M : Type 0} (taken flight sent sent' extra taken' : List (Packet M)) → taken ++ flight ≡ sent → sent' ≡ sent ++ extra → taken' ≡ taken → taken' ++ drop (length taken') sent' ≡ sent'
more_sent taken flight sent sent' extra taken' sound grown same =
    rw (same, grown) (first_part taken (flight ++ extra) (sent ++ extra) (sym (append_assoc taken flight extra) ∙ ap (λ l. l ++ extra) sound))

-- the link whose front packet was taken, and whose sender may have sent more
front_taken : {M : Type 0} (taken flight sent sent' extra taken' : List (Packet M)) (p : Packet M) → taken ++ flight ≡ sent → flight ≡ p ∷ drop 1 flight → sent' ≡ sent ++ extra
    → taken' ≡ taken ++ p ∷ []
    → taken' ++ drop (length taken') sent' ≡ sent'
front_taken taken flight sent sent' extra taken' p sound front grown more =
    let moved : (taken ++ p ∷ []) ++ (drop 1 flight ++ extra) ≡ sent ++ extra =
    append_assoc taken (p ∷ []) (drop 1 flight ++ extra)
    ∙ sym (append_assoc taken (p ∷ drop 1 flight) extra)
    ∙ ap (λ l. (taken ++ l) ++ extra) (sym front)
    ∙ ap (λ l. l ++ extra) sound in
    rw (more, grown) (first_part (taken ++ p ∷ []) (drop 1 flight ++ extra) (sent ++ extra) moved)

same_side-refl : (side : Side) → same_side side side ≡ true
same_side-refl Left = refl
same_side-refl Right = refl

pub same_side-same : (a b : Side) → same_side a b ≡ true → a ≡ b
same_side-same Left Left h = refl
same_side-same Left Right h = cc
same_side-same Right Left h = cc
same_side-same Right Right h = refl

module _ {E S M : Type 0} (t : E → Table S M) (world : Running E M) (i : ℕ) (within : i < length world.journals) (side : Side) (p : Packet M) where
  -- the receiver's node afterwards, and the others
  pub receiver_after : node_at (after_receipt world i side p) i ≡ receiving (node_at world i) side p
  receiver_after =
      ap (λ (journal : List (Side × Packet M)). record { charter = world.charter; position = i; journal = journal })
      (get_or-set_same world.journals i ((receiving (node_at world i) side p).journal) [] within)

  pub others_after : (j : ℕ) → j ≢ i → node_at (after_receipt world i side p) j ≡ node_at world j
  others_after j differ =
      ap (λ (journal : List (Side × Packet M)). record { charter = world.charter; position = j; journal = journal })
      (get_or-set_other world.journals i j ((receiving (node_at world i) side p).journal) [] differ)

  pub receiver_sent : (to : Side) → (extra : List (Packet M)) × (sent_of t (node_at (after_receipt world i side p) i) to ≡ sent_of t (node_at world i) to ++ extra)
  receiver_sent to = (
    _,
    ap (λ (node : Seated E M). sent_of t node to) receiver_after
        ∙ packets_after-snoc (t world.charter.algorithm) (member_of (node_at world i)) to ((node_at world i).journal) side p,
  )

  -- what a node sent grows at its end
  sent_grows : (j : ℕ) (to : Side) → (extra : List (Packet M)) × (sent_of t (node_at (after_receipt world i side p) j) to ≡ sent_of t (node_at world j) to ++ extra)
  sent_grows j to =
      elim (same_or_not j i) [
        | inl here ↦ rw here (receiver_sent to)
        | inr differ ↦ ([], ap (λ (node : Seated E M). sent_of t node to) (others_after j differ) ∙ sym (append-nil _))
      ]

  -- what was taken by the receiver from a side
  pub taken_by : (from : Side) → taken_at t (after_receipt world i side p) i from ≡ taken_at t world i from ++ cond (same_side from side) (p ∷ []) []
  taken_by from = ap (λ (node : Seated E M). taken_of node from) receiver_after ∙ taken_from-snoc from side p ((node_at world i).journal)

  taken_here : taken_at t (after_receipt world i side p) i side ≡ taken_at t world i side ++ p ∷ []
  taken_here = taken_by side ∙ ap (λ (b : Bool). taken_at t world i side ++ cond b (p ∷ []) []) (same_side-refl side)

  pub taken_from_other_side : (from : Side) → same_side from side ≡ false → taken_at t (after_receipt world i side p) i from ≡ taken_at t world i from
  taken_from_other_side from differ = taken_by from ∙ ap (λ (b : Bool). taken_at t world i from ++ cond b (p ∷ []) []) differ ∙ append-nil _

  -- the link of the packet, another link into the same position, and a link into another one
  link_here : IsSoundLinks t world → slice_get (on_link t world i side) 0 ≡ Some p → i < size_of world
      → taken_at t (after_receipt world i side p) i side ++ on_link t (after_receipt world i side p) i side ≡ sent_into t (after_receipt world i side p) i side
  link_here sound front inside =
      let grown = sent_grows (neighbour (size_of world) i side) (other side) in
      front_taken (taken_at t world i side) (on_link t world i side) (sent_into t world i side) _ (grown.0) _ p (sound.taken_first i side inside) (front_first _ p front) (grown.1) taken_here

  link_beside : IsSoundLinks t world → (from : Side) → same_side from side ≡ false → i < size_of world
      → taken_at t (after_receipt world i side p) i from ++ on_link t (after_receipt world i side p) i from ≡ sent_into t (after_receipt world i side p) i from
  link_beside sound from differ inside =
      let grown = sent_grows (neighbour (size_of world) i from) (other from) in
      more_sent (taken_at t world i from) (on_link t world i from) (sent_into t world i from) _ (grown.0) _ (sound.taken_first i from inside) (grown.1) (taken_from_other_side from differ)

  link_away : IsSoundLinks t world → (j : ℕ) (from : Side) → j ≢ i → j < size_of world
      → taken_at t (after_receipt world i side p) j from ++ on_link t (after_receipt world i side p) j from ≡ sent_into t (after_receipt world i side p) j from
  link_away sound j from differ inside =
      let grown = sent_grows (neighbour (size_of world) j from) (other from) in
      more_sent (taken_at t world j from) (on_link t world j from) (sent_into t world j from) _ (grown.0) _ (sound.taken_first j from inside) (grown.1)
      (ap (λ (node : Seated E M). taken_of node from) (others_after j differ))

  -- each link keeps a first part of what was sent
  pub links_after : IsSoundLinks t world → slice_get (on_link t world i side) 0 ≡ Some p → i < size_of world → IsSoundLinks t (after_receipt world i side p)
  links_after sound front inside = record {
    taken_first = λ j from below.
        elim (same_or_not j i) [
          | inr differ ↦ link_away sound j from differ below
          | inl here ↦
              rw here
              (elim (same_side from side) as (λ b. same_side from side ≡ b → taken_at t (after_receipt world i side p) i from ++ on_link t (after_receipt world i side p) i from ≡ sent_into t (after_receipt world i side p) i from) [
                | true ↦ λ same. rw (same_side-same from side same) (link_here sound front inside)
                | false ↦ λ differ. link_beside sound from differ inside
              ] refl)
        ];
  }

  -- The world after a delivery is sound, if the receiver is faithful.
  pub sound_after : (fits : E → Fitting M) (winner : E → List ℕ → ℕ) → IsSoundWorld t fits winner world
      → slice_get (on_link t world i side) 0 ≡ Some p
      → IsFaithful t fits winner (receiving (node_at world i) side p)
      → IsSoundWorld t fits winner (after_receipt world i side p)
  sound_after fits winner sound front faithful =
      let inside : i < size_of world = rw (← sound.count) within in
      record {
        is_ring = sound.is_ring;
        count = length-set world.journals i ((receiving (node_at world i) side p).journal) ∙ sound.count;
        each_link = sound.each_link;
        links = links_after sound.links front inside;
        faithful = λ j below.
            elim (same_or_not j i) [
              | inl here ↦ rw (here, receiver_after) faithful
              | inr differ ↦ rw (others_after j differ) (sound.faithful j below)
            ];
      }

-- the nodes of a world, one of which has received the front packet of a link, are those of the world after it
pub world_after : {E S M : Type 0} (t : E → Table S M) (fits : E → Fitting M) (winner : E → List ℕ → ℕ) (charter : Charter E) (nodes : List (Seated E M)) (cut : List Bool)
    → (world : IsWorld t fits winner charter nodes cut)
    → (i : ℕ) → i < length nodes → (side : Side) (p : Packet M)
    → slice_get (on_link t (record { charter = charter; journals = journals_of nodes; cut = cut }) i side) 0 ≡ Some p
    → (node : Seated E M) → node ≡ receiving (node_at (record { charter = charter; journals = journals_of nodes; cut = cut }) i) side p
    → IsFaithful t fits winner node
    → IsWorld t fits winner charter (slice_set nodes i node) cut
world_after {E} {S} {M} t fits winner charter nodes cut world i within side p front node is faithful =
    let old : Running E M = record { charter = charter; journals = journals_of nodes; cut = cut } in
    let gained : Seated E M = receiving (node_at old i) side p in
    let inside : i < length (journals_of nodes) = rw length-journals_of within in
    let at : i ≡ 0 + i = omega arith in
    rw is (record {
      nodes_are =
          ap (λ (l : List (Seated E M)). slice_set l i gained) world.nodes_are
          ∙ ap (λ (q : ℕ). slice_set (nodes_from charter 0 (journals_of nodes)) i (record { charter = charter; position = q; journal = gained.journal })) at
          ∙ sym (nodes_from-set charter 0 (journals_of nodes) i gained.journal)
          ∙ ap (λ (l : List (List (Side × Packet M))). nodes_from charter 0 l) (sym (journals_of-set nodes i gained));
      sound = rw (journals_of-set nodes i gained) (sound_after t old i inside side p fits winner world.sound front (rw is at faithful));
    })

module _ {E S M : Type 0} (t : E → Table S M) (fits : E → Fitting M) (winner : E → List ℕ → ℕ) (charter : Charter E) (nodes : List (Seated E M)) (cut : List Bool)
    (world : IsWorld t fits winner charter nodes cut) (i : ℕ) (inside : i < length charter.roster) where
  -- a world has a node for each position
  pub place_within : i < length nodes
  place_within = rw (← length-journals_of nodes, world.sound.count) inside

  -- the node at a place is the one of that position
  pub node_there : (node : Seated E M) → node ≡ get_or nodes i node → node ≡ node_at (record { charter = charter; journals = journals_of nodes; cut = cut }) i
  node_there node is = is ∙ node_of_world charter nodes cut world.nodes_are i node place_within

  -- the journals once that node has received a packet
  pub view_after : (side : Side) (p : Packet M) (node : Seated E M) → node ≡ receiving (node_at (record { charter = charter; journals = journals_of nodes; cut = cut }) i) side p
      → (let now : Running E M = record { charter = charter; journals = journals_of (slice_set nodes i node); cut = cut } in now ≡ after_receipt (record { charter = charter; journals = journals_of nodes; cut = cut }) i side p)
  view_after side p node is =
      rw is (ap (λ (l : List (List (Side × Packet M))). record { charter = charter; journals = l; cut = cut }) (journals_of-set nodes i _))

  -- what that receipt brings
  pub news_after : (side : Side) (p : Packet M) (node : Seated E M) → node ≡ receiving (node_at (record { charter = charter; journals = journals_of nodes; cut = cut }) i) side p
      → news_of t (node_at (record { charter = charter; journals = journals_of nodes; cut = cut }) i) (receiving (node_at (record { charter = charter; journals = journals_of nodes; cut = cut }) i) side p)
      ≡ news_of t (node_at (record { charter = charter; journals = journals_of nodes; cut = cut }) i) (node_at (record { charter = charter; journals = journals_of (slice_set nodes i node); cut = cut }) i)
  news_after side p node is =
      let old : Running E M = record { charter = charter; journals = journals_of nodes; cut = cut } in
      let within : i < length (journals_of nodes) = rw length-journals_of place_within in
      sym
      (ap (λ (now : Running E M). news_of t (node_at old i) (node_at now i)) (view_after side p node is)
      ∙ ap (λ (now : Seated E M). news_of t (node_at old i) now) (receiver_after t old i within side p))
