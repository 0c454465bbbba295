-- Bounded work: a world has taken no more messages than its algorithm's bound, and no position has
-- taken more than one announcement, for only its left neighbour announces to it, and once.
use Rattle.std.proofs.Common.{◌≡◌, ◌+◌, ◌<◌, ◌≤◌, ℕ, zero, suc, List, [], ◌∷◌, ◌++◌, length, take, Option, Some, None, get_or, refl, sym, ap, ◌∙◌, add-one, arith}
use Rattle.std.proofs.lemmas.List.{length-append, take_all}
use Rattle.std.proofs.lemmas.Option.{get_or_from_slice_get}
use Rattle.ring_id.specs.declared.side.Side.{Side}
use Rattle.ring_id.specs.declared.side.Side.TheVariants.{Left, Right}
use Rattle.ring_id.specs.Sides.{other}
use Rattle.ring_roster.specs.Ring.{neighbour}
use Rattle.ring_election.specs.Families.{Fitting, IsSound, taken_in_all}
use Rattle.ring_election.specs.Laws.{Bounded}
use Rattle.ring_election.specs.Tables.{Table}
use Rattle.ring_election.specs.Traces.{taken_from}
use Rattle.ring_node.specs.declared.packet.Packet.{Packet}
use Rattle.ring_node.specs.declared.packet.Packet.TheVariants.{Algo, Leader}
use Rattle.ring_node.specs.Journals.{algo_part, packets_after}
use Rattle.ring_node.specs.private.Journals.{algos_of}
use Rattle.ring_node.specs.Nodes.{member_of, known_of}
use Rattle.ring_node.specs.Ports.{all_leaders}
use Rattle.ring_node.proofs.Receipts.{algos_of-append, algos_of-packets_after}
use Rattle.ring_world.specs.declared.packet_kind.PacketKind.TheVariants.{Announcement}
use Rattle.ring_world.specs.PacketKinds.{of_kind}
use Rattle.ring_world.specs.Worlds.{IsSoundWorld, Running, announced_in, announcements_in, announcements_of, delivered_of, on_link, most_deliveries, node_at, receipts_in, sent_into, size_of, taken_at}
use Rattle.ring_world.proofs.Announcements.{announced_left, announced_right, of_kind-append, taken_from-algo_part}
use Rattle.ring_world.proofs.Links.{receipts_in-take}

-- the announcements in a journal came from either side
announced_sides : {M : Type 0} (js : List (Side × Packet M)) → announced_in js ≡ length (of_kind Announcement (taken_from Left js)) + length (of_kind Announcement (taken_from Right js))
announced_sides [] = refl
announced_sides ((Left, Algo m) ∷ js) = announced_sides js
announced_sides ((Left, Leader v) ∷ js) = omega (arith, announced_sides js)
announced_sides ((Right, Algo m) ∷ js) = announced_sides js
announced_sides ((Right, Leader v) ∷ js) = omega (arith, announced_sides js)

-- a journal's receipts are the algorithm's and the announcements
length-journal : {M : Type 0} (js : List (Side × Packet M)) → length js ≡ length (algo_part js) + announced_in js
length-journal [] = refl
length-journal ((side, Algo m) ∷ js) = omega (arith, length-journal js)
length-journal ((side, Leader v) ∷ js) = omega (arith, length-journal js)

-- the announcements of one position more
announcements_in-take : {M : Type 0} (journals : List (List (Side × Packet M))) (i : ℕ) → i < length journals → announcements_in (take (i + 1) journals) ≡ announcements_in (take i journals) + announced_in (get_or journals i [])
announcements_in-take [] i h = absurd (omega arith)
announcements_in-take (journal ∷ journals) zero h = omega arith
announcements_in-take (journal ∷ journals) (suc i) h =
    let rest = announcements_in-take journals i (omega arith) in
    rw add-one (omega (arith, rw add-one at rest))

one_leader : (M : Type 0) (o : Option ℕ) → length (all_leaders {M = M} o) ≤ 1
one_leader M None = omega arith
one_leader M (Some v) = omega arith

module _ {E S M : Type 0} (t : E → Table S M) (fits : E → Fitting M) (winner : E → List ℕ → ℕ) (world : Running E M) (sound : IsSoundWorld t fits winner world) where
  -- the receipts of the algorithms are a sound family
  sound_family : IsSound (t world.charter.algorithm) world.charter.roster (λ i. algo_part (get_or world.journals i []))
  sound_family = record {
    taken = λ i from sender below there.
        let next : ℕ = neighbour (size_of world) i from in
        let journal : List (Side × Packet M) = get_or world.journals next [] in (
          algos_of (on_link t world i from),
          ap (λ (l : List M). l ++ algos_of (on_link t world i from)) (taken_from-algo_part from (get_or world.journals i []))
              ∙ sym (algos_of-append (taken_at t world i from) (on_link t world i from))
              ∙ ap algos_of (sound.links.taken_first i from below)
              ∙ ap (λ (me : ℕ). algos_of (packets_after (t world.charter.algorithm) me (other from) journal)) (get_or_from_slice_get world.charter.roster next sender 0 there)
              ∙ algos_of-packets_after (t world.charter.algorithm) sender (other from) journal,
        );
  }

  -- no more announcements are taken from a link than were sent there
  taken_announcements : (i : ℕ) (side : Side) → i < size_of world → length (of_kind Announcement (taken_at t world i side)) ≤ length (of_kind Announcement (sent_into t world i side))
  taken_announcements i side below =
      let whole : of_kind Announcement (taken_at t world i side) ++ of_kind Announcement (on_link t world i side) ≡ of_kind Announcement (sent_into t world i side) =
      sym (of_kind-append Announcement (taken_at t world i side) (on_link t world i side)) ∙ ap (of_kind Announcement) (sound.links.taken_first i side below) in
      omega (arith, ap length whole, length-append (of_kind Announcement (taken_at t world i side)) (of_kind Announcement (on_link t world i side)))

  -- a position has taken at most one announcement
  one_announcement : (i : ℕ) → i < size_of world → announced_in (get_or world.journals i []) ≤ 1
  one_announcement i below =
      let left = node_at world (neighbour (size_of world) i Left) in
      let right = node_at world (neighbour (size_of world) i Right) in
      let from_left : length (of_kind Announcement (sent_into t world i Left)) ≡ length (all_leaders {M = M} (known_of t left)) = ap length (announced_right (t world.charter.algorithm) (member_of left) left.journal) in
      let from_right : length (of_kind Announcement (sent_into t world i Right)) ≡ 0 = ap length (announced_left (t world.charter.algorithm) (member_of right) right.journal) in
      omega (arith, announced_sides (get_or world.journals i []), taken_announcements i Left below, taken_announcements i Right below, from_left, from_right, one_leader M (known_of t left))

  announced_below : (n : ℕ) → n ≤ size_of world → announcements_in (take n world.journals) ≤ n
  announced_below zero within = omega arith
  announced_below (suc n) within =
      let before = announced_below n (omega arith) in
      let here = one_announcement n (omega arith) in
      let more = announcements_in-take world.journals n (let count = sound.count in omega arith) in
      let last : suc n ≡ n + 1 = omega arith in
      let next : announcements_in (take (suc n) world.journals) ≡ announcements_in (take (n + 1) world.journals) = ap (λ (k : ℕ). announcements_in (take k world.journals)) last in
      omega (arith, next, more, before, here)

  -- a world has taken at most one announcement for each position
  pub announcements_bounded : announcements_of world ≤ size_of world
  announcements_bounded =
      let all : take (size_of world) world.journals ≡ world.journals = take_all (size_of world) world.journals (let count = sound.count in omega arith) in
      omega (arith, announced_below (size_of world) (omega arith), ap announcements_in all)

  received_below : (n : ℕ) → n ≤ size_of world → receipts_in (take n world.journals) ≤ taken_in_all n (λ i. algo_part (get_or world.journals i [])) + n
  received_below zero within = omega arith
  received_below (suc n) within =
      let before = received_below n (omega arith) in
      let here = one_announcement n (omega arith) in
      let split = length-journal (get_or world.journals n []) in
      let more = receipts_in-take world.journals n (let count = sound.count in omega arith) in
      let last : suc n ≡ n + 1 = omega arith in
      let next : receipts_in (take (suc n) world.journals) ≡ receipts_in (take (n + 1) world.journals) = ap (λ (k : ℕ). receipts_in (take k world.journals)) last in
      omega (arith, next, more, before, here, split)

  -- a world has taken at most as many packets as its bound allows, and one announcement for each position
  pub work_bounded : (bound : E → ℕ → ℕ) → Bounded (t world.charter.algorithm) (fits world.charter.algorithm) (bound world.charter.algorithm) → delivered_of world ≤ most_deliveries bound world
  work_bounded bound bounded =
      let messages = bounded.work_is_bounded world.charter.roster (λ i. algo_part (get_or world.journals i [])) sound.is_ring (record { at = λ i below. (sound.faithful i below).fitting }) sound_family in
      let all : take (size_of world) world.journals ≡ world.journals = take_all (size_of world) world.journals (let count = sound.count in omega arith) in
      omega (arith, messages, received_below (size_of world) (omega arith), ap receipts_in all)
