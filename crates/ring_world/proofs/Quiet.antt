-- Quiet means known: where each position has taken all that was sent to it, some position has decided,
-- and its announcement has gone all the way round.
use Rattle.std.proofs.Common.{◌≡◌, ◌<◌, ◌≤◌, ℕ, zero, suc, List, [], ◌++◌, length, Option, Some, None, get_or, refl, sym, ap, ◌∙◌, subst, arith}
use Rattle.std.specs.Prelude.{IfNone}
use Rattle.std.proofs.lemmas.List.{append-nil}
use Rattle.std.proofs.lemmas.Option.{get_or_from_slice_get, slice_get_within}
use Rattle.ring_id.specs.declared.side.Side.{Side}
use Rattle.ring_id.specs.declared.side.Side.TheVariants.{Left, Right}
use Rattle.ring_id.specs.Sides.{other}
use Rattle.ring_roster.specs.Ring.{IsRing, neighbour, right_of}
use Rattle.ring_election.specs.Families.{FamilyFits, Fitting, IsComplete}
use Rattle.ring_election.specs.Laws.{Deciding}
use Rattle.ring_election.specs.Tables.{Table}
use Rattle.ring_election.specs.Traces.{taken_from}
use Rattle.ring_election.proofs.Rings.{around, left_of-right_of, neighbour-below}
use Rattle.ring_node.specs.declared.packet.Packet.{Packet}
use Rattle.ring_node.specs.Journals.{algo_part, known_after, packets_after}
use Rattle.ring_node.specs.private.Journals.{algos_of}
use Rattle.ring_node.specs.Ports.{all_leaders}
use Rattle.ring_node.proofs.Receipts.{algos_of-packets_after}
use Rattle.ring_world.specs.declared.packet_kind.PacketKind.{PacketKind}
use Rattle.ring_world.specs.declared.packet_kind.PacketKind.TheVariants.{Message, Announcement}
use Rattle.ring_world.specs.Quiet.{AllKnow, IsEmptied, IsQuiet}
use Rattle.ring_world.specs.PacketKinds.{of_kind}
use Rattle.ring_world.specs.Worlds.{IsReady, IsSoundWorld, IsUncut, Running, on_link, pending_below, pending_of, size_of, taken_at}
use Rattle.ring_world.proofs.Announcements.{algos_of-of_kind, announced_right, decided_knows, taken_from-algo_part, unknown_took_none}
use Rattle.ring_world.proofs.Cuts.{pending_stands, quiet_emptied}
use Rattle.ring_world.proofs.Links.{each_side_below, no_length}

-- on each link of a ring, the packets of each kind that were taken are those that were sent
pub record IsMatched {S M : Type 0} (t : Table S M) (ring : List ℕ) (journals : ℕ → List (Side × Packet M)) : Type 0 where
  pub each : (i : ℕ) (side : Side) (kind : PacketKind) → i < length ring →
      of_kind kind (taken_from side (journals i)) ≡ of_kind kind (packets_after t (get_or ring (neighbour (length ring) i side) 0) (other side) (journals (neighbour (length ring) i side)))

-- the position knows a leader
pub record IsInformed {S M : Type 0} (t : Table S M) (ring : List ℕ) (journals : ℕ → List (Side × Packet M)) (i : ℕ) : Type 0 where
  pub leader : ℕ
  pub knows : known_after t (get_or ring i 0) (journals i) ≡ Some leader

module _ {S M : Type 0} (t : Table S M) (fits : Fitting M) (ring : List ℕ) (journals : ℕ → List (Side × Packet M)) (matched : IsMatched t ring journals) where
  -- the receipts of the algorithms are a complete family
  matched_complete : IsComplete t ring (λ i. algo_part (journals i))
  matched_complete = record {
    taken = λ i from sender below there.
        let next : ℕ = neighbour (length ring) i from in
        let sent : List (Packet M) = packets_after t (get_or ring next 0) (other from) (journals next) in
        taken_from-algo_part from (journals i)
        ∙ algos_of-of_kind (taken_from from (journals i))
        ∙ ap algos_of (matched.each i from Message below)
        ∙ sym (algos_of-of_kind sent)
        ∙ ap (λ (me : ℕ). algos_of (packets_after t me (other from) (journals next))) (get_or_from_slice_get ring next sender 0 there)
        ∙ algos_of-packets_after t sender (other from) (journals next);
  }

  -- who knows has announced it to the right neighbour, who has taken the announcement, and so knows
  informs_next : (i : ℕ) → i < length ring → IsInformed t ring journals i → IsInformed t ring journals (right_of (length ring) i)
  informs_next i below informed =
      let next : ℕ = right_of (length ring) i in
      let me : ℕ = get_or ring next 0 in
      let family : ℕ → Type 0 = λ (q : ℕ). of_kind Announcement (taken_from Left (journals next)) ≡ of_kind Announcement (packets_after t (get_or ring q 0) Right (journals q)) in
      let took = subst family (left_of-right_of (length ring) i below) (matched.each next Left Announcement (neighbour-below (length ring) i Right below)) in
      let some = took ∙ announced_right t (get_or ring i 0) (journals i) ∙ ap all_leaders informed.knows in
      elim (known_after t me (journals next)) as (λ o. known_after t me (journals next) ≡ o → IsInformed t ring journals next) [
        | None ↦ λ e. let none = unknown_took_none t me (journals next) Left e in absurd cc
        | Some v ↦ λ e. record { leader = v; knows = e }
      ] refl

  -- some position has decided, and so every position knows
  pub matched_informed : Deciding t fits → ((me : ℕ) → t.decided (t.first me) ≡ None) → IsRing ring → FamilyFits fits ring (λ i. algo_part (journals i)) → (i : ℕ) → i < length ring → IsInformed t ring journals i
  matched_informed deciding undecided is_ring fitting i below =
      let first = deciding.complete_decides ring (λ j. algo_part (journals j)) is_ring fitting matched_complete in
      let inside = slice_get_within ring first.position first.me first.there in
      let known = decided_knows t first.me (journals first.position) first.leader (undecided first.me) first.decided in
      let start : IsInformed t ring journals first.position = record { leader = known.0; knows = ap (λ (me : ℕ). known_after t me (journals first.position)) (get_or_from_slice_get ring first.position first.me 0 first.there) ∙ known.1 } in
      around (length ring) first.position (IsInformed t ring journals) inside (informs_next first.position inside start) (λ j low differ informed. informs_next j low informed) i below

module _ {E S M : Type 0} (t : E → Table S M) (fits : E → Fitting M) (winner : E → List ℕ → ℕ) (world : Running E M) where
  -- in a sound world where nothing stands on a link, all that was sent was taken
  emptied_matched : IsSoundWorld t fits winner world → IsEmptied t world → IsMatched (t world.charter.algorithm) world.charter.roster (λ i. get_or world.journals i [])
  emptied_matched sound emptied = record {
    each = λ i side kind below.
        ap (of_kind kind)
        (sym (append-nil (taken_at t world i side))
        ∙ ap (λ (l : List (Packet M)). taken_at t world i side ++ l) (sym (emptied.taken i side below))
        ∙ sound.links.taken_first i side below);
  }

  -- in a sound world where nothing stands on a link, each node knows the winner
  pub emptied_knows : Deciding (t world.charter.algorithm) (fits world.charter.algorithm) → ((me : ℕ) → (t world.charter.algorithm).decided ((t world.charter.algorithm).first me) ≡ None)
      → IsSoundWorld t fits winner world → IsEmptied t world → AllKnow t winner world
  emptied_knows deciding undecided sound emptied = record {
    each = λ i below.
        let informed = matched_informed (t world.charter.algorithm) (fits world.charter.algorithm) world.charter.roster (λ j. get_or world.journals j []) (emptied_matched sound emptied) deciding undecided sound.is_ring
        (record { at = λ j low. (sound.faithful j low).fitting }) i below in
        informed.knows ∙ ap (λ (v : ℕ). Some v) ((sound.faithful i below).knows informed.leader informed.knows);
  }

  -- Quiet means known: in a sound world with nothing in flight and no cut link, each node knows the winner.
  pub quiet_knows : Deciding (t world.charter.algorithm) (fits world.charter.algorithm) → ((me : ℕ) → (t world.charter.algorithm).decided ((t world.charter.algorithm).first me) ≡ None)
      → IsSoundWorld t fits winner world → IsUncut world → IsQuiet t world → AllKnow t winner world
  quiet_knows deciding undecided sound uncut quiet = emptied_knows deciding undecided sound (quiet_emptied t world uncut quiet)

  -- and so it is where no link is ready
  pub ready_knows : Deciding (t world.charter.algorithm) (fits world.charter.algorithm) → ((me : ℕ) → (t world.charter.algorithm).decided ((t world.charter.algorithm).first me) ≡ None)
      → IsSoundWorld t fits winner world → (found : Option (ℕ × Side)) → IsReady t world found → IfNone found (IsUncut world → AllKnow t winner world)
  ready_knows deciding undecided sound None idle = λ uncut. quiet_knows deciding undecided sound uncut (record { idle = idle })
  ready_knows deciding undecided sound (Some link) first = tt

module _ {E S M : Type 0} (t : E → Table S M) (world : Running E M) where
  -- where no packet is in flight or stuck into the positions below n, nothing is on their links
  none_below : (n : ℕ) → pending_below t world n ≡ 0 → (i : ℕ) (side : Side) → i < n → on_link t world i side ≡ []
  none_below zero none i side below = absurd (omega arith)
  none_below (suc n) none i side below =
      let left = pending_stands t world n Left in
      let right = pending_stands t world n Right in
      each_side_below (λ j from. on_link t world j from ≡ []) n (none_below n (omega arith)) (no_length _ (omega (arith, none, left))) (no_length _ (omega (arith, none, right))) i side (omega arith)

  -- nothing stands on a link where no packet is pending
  pub none_pending_emptied : pending_of t world ≡ 0 → IsEmptied t world
  none_pending_emptied none = record { taken = none_below (size_of world) none }

  pending_none_below : IsEmptied t world → (n : ℕ) → n ≤ size_of world → pending_below t world n ≡ 0
  pending_none_below emptied zero within = refl
  pending_none_below emptied (suc n) within =
      let left = pending_stands t world n Left ∙ ap length (emptied.taken n Left (omega arith)) in
      let right = pending_stands t world n Right ∙ ap length (emptied.taken n Right (omega arith)) in
      omega (arith, pending_none_below emptied n (omega arith), left, right)

  -- and only there
  pub emptied_none_pending : IsEmptied t world → pending_of t world ≡ 0
  emptied_none_pending emptied = pending_none_below emptied (size_of world) (omega arith)
