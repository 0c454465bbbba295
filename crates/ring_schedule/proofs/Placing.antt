-- What stands on the links of a ring under a kind of the sum is what stands there under its algorithm, put
-- into the sum.
use Rattle.std.specs.Prelude.{◌≡◌, ◌+◌, ℕ, zero, suc, true, false, cond, List, [], ◌∷◌, ◌++◌, length, drop, map, slice_set, refl}
use Rattle.std.proofs.Common.{◌∙◌, ap, ap₂, sym}
use Rattle.std.proofs.Math.ListN.{get_or-map}
use Rattle.std.proofs.lemmas.List.{drop-map, length-map, map-append, map-set}
use Rattle.ring_id.specs.declared.side.Side.{Side}
use Rattle.ring_id.specs.declared.side.Side.TheVariants.{Left, Right}
use Rattle.ring_id.specs.Sides.{other}
use Rattle.ring_roster.specs.Ring.{neighbour}
use Rattle.ring_election.specs.Tables.{Table}
use Rattle.ring_node.specs.declared.packet.Packet.{Packet}
use Rattle.ring_node.specs.Nodes.{Seated, known_of, member_of, receiving, sent_of, taken_of}
use Rattle.ring_world.specs.Worlds.{Running, after_receipt, in_flight, is_cut, node_at, on_link, pending_below, pending_of, pending_on, sent_into, size_of, stuck_on, taken_at}
use Rattle.ring_any.specs.Variants.{Variant, lift_table}
use Rattle.ring_schedule.specs.Under.{charter_under, put_journal, put_packet, put_receipt, running_under}
use Rattle.ring_schedule.proofs.Putting.{known_after-put, packets_after-put, taken_from-put}

-- the same node under a kind of the sum
abbrev pub node_under : {E F W P : Type 0} → F → Variant W P → Seated E P → Seated F W
node_under kind messages node = record { charter = charter_under kind node.charter; position = node.position; journal = put_journal messages node.journal }

-- an algorithm's table, put into the sum, is its kind's
pub record IsKindOf {E F S WS M WM : Type 0} (states : Variant WS S) (messages : Variant WM M) (t : E → Table S M) (on_sum : F → Table WS WM) (kind : F) : Type 0 where
  pub table_is : (a : E) → on_sum kind ≡ lift_table states messages (t a)

module _ {E F WM M : Type 0} (messages : Variant WM M) (kind : F) (world : Running E M) where
  -- the node at a position
  pub node_at-under : (i : ℕ) → node_at (running_under kind messages world) i ≡ node_under kind messages (node_at world i)
  node_at-under i =
      ap (λ (journal : List (Side × Packet WM)). record { charter = charter_under kind world.charter; position = i; journal = journal }) (get_or-map (put_journal messages) world.journals i [])

  -- the world after one more receipt
  pub after_receipt-under : (i : ℕ) (side : Side) (p : Packet M) → running_under kind messages (after_receipt world i side p) ≡ after_receipt (running_under kind messages world) i side (put_packet messages p)
  after_receipt-under i side p =
      ap (λ (journals : List (List (Side × Packet WM))). record { charter = charter_under kind world.charter; journals = journals; cut = world.cut })
      (map-set (put_journal messages) world.journals i ((receiving (node_at world i) side p).journal)
      ∙ ap (λ (journal : List (Side × Packet WM)). slice_set (map (put_journal messages) world.journals) i journal)
      (map-append (put_receipt messages) ((node_at world i).journal) ((side, p) ∷ [])
      ∙ ap (λ (node : Seated F WM). node.journal ++ (side, put_packet messages p) ∷ []) (sym (node_at-under i))))

  -- what it took from a side
  pub taken_by-under : (i : ℕ) (side : Side) → taken_of (node_at (running_under kind messages world) i) side ≡ map (put_packet messages) (taken_of (node_at world i) side)
  taken_by-under i side = ap (λ (node : Seated F WM). taken_of node side) (node_at-under i) ∙ taken_from-put messages side ((node_at world i).journal)

module _ {E F S WS M WM : Type 0} (states : Variant WS S) (messages : Variant WM M) (t : E → Table S M) (on_sum : F → Table WS WM) (kind : F) (is : IsKindOf states messages t on_sum kind) where
  -- the leader that a node knows
  pub known_of-under : (node : Seated E M) → known_of on_sum (node_under kind messages node) ≡ known_of t node
  known_of-under node = rw (is.table_is node.charter.algorithm) (known_after-put states messages (t node.charter.algorithm) (member_of node) node.journal)

  -- what it has sent to a side
  sent_of-under : (node : Seated E M) (to : Side) → sent_of on_sum (node_under kind messages node) to ≡ map (put_packet messages) (sent_of t node to)
  sent_of-under node to = rw (is.table_is node.charter.algorithm) (packets_after-put states messages (t node.charter.algorithm) (member_of node) to node.journal)

  module _ (world : Running E M) where
    -- the leader that the node at a position knows
    pub known_at-under : (i : ℕ) → known_of on_sum (node_at (running_under kind messages world) i) ≡ known_of t (node_at world i)
    known_at-under i = ap (known_of on_sum) (node_at-under messages kind world i) ∙ known_of-under (node_at world i)

    -- what was sent on a link
    pub sent_into-under : (i : ℕ) (side : Side) → sent_into on_sum (running_under kind messages world) i side ≡ map (put_packet messages) (sent_into t world i side)
    sent_into-under i side =
        ap (λ (node : Seated F WM). sent_of on_sum node (other side)) (node_at-under messages kind world (neighbour (size_of world) i side))
        ∙ sent_of-under (node_at world (neighbour (size_of world) i side)) (other side)

    -- what stands there
    pub on_link-under : (i : ℕ) (side : Side) → on_link on_sum (running_under kind messages world) i side ≡ map (put_packet messages) (on_link t world i side)
    on_link-under i side =
        ap₂ (λ (taken sent : List (Packet WM)). drop (length taken) sent) (taken_by-under messages kind world i side) (sent_into-under i side)
        ∙ ap (λ (n : ℕ). drop n (map (put_packet messages) (sent_into t world i side))) (length-map (taken_at t world i side) (put_packet messages))
        ∙ drop-map (put_packet messages) (length (taken_at t world i side)) (sent_into t world i side)

    -- what is in flight there
    pub in_flight-under : (i : ℕ) (side : Side) → in_flight on_sum (running_under kind messages world) i side ≡ map (put_packet messages) (in_flight t world i side)
    in_flight-under i side =
        elim (is_cut world i side) as (λ b. cond b [] (on_link on_sum (running_under kind messages world) i side) ≡ map (put_packet messages) (cond b [] (on_link t world i side))) [
          | true ↦ refl
          | false ↦ on_link-under i side
        ]

    -- how many packets are in flight there
    pub length-in_flight-under : (i : ℕ) (side : Side) → length (in_flight on_sum (running_under kind messages world) i side) ≡ length (in_flight t world i side)
    length-in_flight-under i side = ap length (in_flight-under i side) ∙ length-map (in_flight t world i side) (put_packet messages)

    length-stuck_on-under : (i : ℕ) (side : Side) → length (stuck_on on_sum (running_under kind messages world) i side) ≡ length (stuck_on t world i side)
    length-stuck_on-under i side =
        elim (is_cut world i side) as (λ b. length (cond b (on_link on_sum (running_under kind messages world) i side) []) ≡ length (cond b (on_link t world i side) [])) [
          | true ↦ ap length (on_link-under i side) ∙ length-map (on_link t world i side) (put_packet messages)
          | false ↦ refl
        ]

    pending_on-under : (i : ℕ) (side : Side) → pending_on on_sum (running_under kind messages world) i side ≡ pending_on t world i side
    pending_on-under i side = ap₂ (λ (a b : ℕ). a + b) (length-in_flight-under i side) (length-stuck_on-under i side)

    pending_below-under : (n : ℕ) → pending_below on_sum (running_under kind messages world) n ≡ pending_below t world n
    pending_below-under zero = refl
    pending_below-under (suc n) =
        ap₂ (λ (a b : ℕ). a + b) (pending_below-under n) (ap₂ (λ (a b : ℕ). a + b) (pending_on-under n Left) (pending_on-under n Right))

    -- how many are in flight or stuck in all
    pub pending_of-under : pending_of on_sum (running_under kind messages world) ≡ pending_of t world
    pending_of-under = pending_below-under (size_of world)
