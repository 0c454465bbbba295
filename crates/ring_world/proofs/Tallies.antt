-- What stands on the links after a receipt: on the packet's link one packet less, on the links from the
-- receiver what it has sent because of it, and on every other link what was there.
use Rattle.std.proofs.Common.{◌≡◌, ◌≢◌, ◌+◌, ◌-◌, ◌*◌, ◌<◌, ◌≤◌, ◌==◌, ℕ, zero, suc, true, false, cond, nat_lt, List, [], ◌∷◌, ◌++◌, length, drop, Some, slice_get, refl, sym, ap, ap₂, ◌∙◌, arith, inl, inr}
use Rattle.std.proofs.lemmas.List.{append-nil, length-append}
use Rattle.ring_id.specs.declared.side.Side.{Side}
use Rattle.ring_id.specs.declared.side.Side.TheVariants.{Left, Right}
use Rattle.ring_id.specs.Sides.{other, same_side}
use Rattle.ring_roster.specs.Ring.{left_of, neighbour, right_of}
use Rattle.ring_election.specs.Tables.{Table}
use Rattle.ring_election.proofs.Rings.{neighbour-below, neighbour-neighbour}
use Rattle.ring_election.specs.Families.{Fitting}
use Rattle.ring_node.specs.declared.packet.Packet.{Packet}
use Rattle.ring_node.specs.Nodes.{Seated, sent_of, taken_of}
use Rattle.ring_world.specs.private.LinkSets.{bit_of}
use Rattle.ring_world.specs.private.Tallies.{HasLeft, HasMarkedSent, IsMarked, IsMarkedAll, IsTallied, some_or_none}
use Rattle.ring_world.specs.Worlds.{IsSoundLinks, IsSoundWorld, Running, after_receipt, is_cut, link_place, node_at, on_link, pending_below, pending_of, sent_into, size_of, taken_at}
use Rattle.ring_world.proofs.Counting.{counts, counts_not, counts_next, counts_below, counts_nowhere, one_if, counts_link, one_taken, is_one, isnt_one, same_side_self, not_both, counts_side}
use Rattle.ring_world.proofs.Cuts.{mark_emptied, mark_standing, pending_stands, place_below, same_place}
use Rattle.ring_world.proofs.Deliveries.{links_after, others_after, receiver_sent, same_side-same, taken_by, taken_from_other_side}
use Rattle.ring_world.proofs.Links.{no_length, same_or_not}
use Rattle.ring_world.proofs.Marks.{pending_few}

-- ---- Lengths

-- what is in flight on a link is what was sent there and not taken
flight_is_rest : {M : Type 0} (taken flight sent : List (Packet M)) → taken ++ flight ≡ sent → length taken + length flight ≡ length sent
flight_is_rest taken flight sent whole = sym (length-append taken flight) ∙ ap length whole

pub some_length : {A : Type 0} (xs : List A) (x : A) → slice_get xs 0 ≡ Some x → 0 < length xs
some_length [] x h = cc
some_length (y ∷ xs) x h = omega arith

module _ {E S M : Type 0} (t : E → Table S M) (world : Running E M) (i : ℕ) (within : i < length world.journals) (side : Side) (p : Packet M) where
  -- how much more the receiver has sent to a side
  pub more : Side → ℕ
  more to = length ((receiver_sent t world i within side p to).0)

  more_sent_by : (to : Side) → length (sent_of t (node_at (after_receipt world i side p) i) to) ≡ length (sent_of t (node_at world i) to) + more to
  unfolding more
  more_sent_by to = let grown = receiver_sent t world i within side p to in ap length grown.1 ∙ length-append (sent_of t (node_at world i) to) grown.0

  sent_after : (j : ℕ) (to : Side) → length (sent_of t (node_at (after_receipt world i side p) j) to) ≡ length (sent_of t (node_at world j) to) + cond (j == i) (more to) 0
  sent_after j to =
      elim (same_or_not j i) [
        | inl here ↦ rw (here, counts i i (more to) refl) (more_sent_by to)
        | inr differ ↦
            let same = ap (λ (node : Seated E M). length (sent_of t node to)) (others_after t world i within side p j differ) in
            omega (arith, same, counts_not j i (more to) differ)
      ]

  taken_after : (j : ℕ) (from : Side) → length (taken_at t (after_receipt world i side p) j from) ≡ length (taken_at t world j from) + cond (j == i) (cond (same_side from side) 1 0) 0
  taken_after j from =
      elim (same_or_not j i) [
        | inl here ↦
            rw (here, counts i i (cond (same_side from side) 1 0) refl)
            (ap length (taken_by t world i within side p from) ∙ length-append (taken_at t world i from) (cond (same_side from side) (p ∷ []) []) ∙ ap (λ n. length (taken_at t world i from) + n) (one_if p (same_side from side)))
        | inr differ ↦
            let same = ap (λ (node : Seated E M). length (taken_of node from)) (others_after t world i within side p j differ) in
            omega (arith, same, counts_not j i (cond (same_side from side) 1 0) differ)
      ]

  module _ (sound : IsSoundLinks t world) (front : slice_get (on_link t world i side) 0 ≡ Some p) (inside : i < size_of world) where
    -- what is in flight on a link afterwards
    flight_after : (j : ℕ) (from : Side) → j < size_of world → length (on_link t (after_receipt world i side p) j from) + cond (j == i) (cond (same_side from side) 1 0) 0
        ≡ length (on_link t world j from) + cond (j == neighbour (size_of world) i (other from)) (more (other from)) 0
    flight_after j from below =
        let before = flight_is_rest (taken_at t world j from) (on_link t world j from) (sent_into t world j from) (sound.taken_first j from below) in
        let new = after_receipt world i side p in
        let after = flight_is_rest (taken_at t new j from) (on_link t new j from) (sent_into t new j from) ((links_after t world i within side p sound front inside).taken_first j from below) in
        let taken = taken_after j from in
        let sent = sent_after (neighbour (size_of world) j from) (other from) in
        let link = counts_link (size_of world) j i from (more (other from)) below inside in
        omega (arith, before, after, taken, sent, link)

    -- what is taken was in flight
    taken_waits : (j : ℕ) (from : Side) → cond (j == i) (cond (same_side from side) 1 0) 0 ≤ length (on_link t world j from)
    taken_waits j from =
        elim (same_or_not j i) [
          | inr differ ↦ omega (arith, counts_not j i (cond (same_side from side) 1 0) differ)
          | inl at ↦
              elim (same_side from side) as (λ b. same_side from side ≡ b → cond (j == i) (cond b 1 0) 0 ≤ length (on_link t world j from)) [
                | false ↦ λ e. omega (arith, counts j i 0 at)
                | true ↦ λ e. let some = some_length _ p front in rw (at, same_side-same from side e) (omega (arith, counts i i 1 refl, some))
              ] refl
        ]

    -- where the receiver has sent more, something is in flight there
    waits_after : (to : Side) → 0 < more to → 0 < length (on_link t (after_receipt world i side p) (neighbour (size_of world) i to) (other to))
    waits_after Left some =
        let n : ℕ = size_of world in
        let j : ℕ = left_of n i in
        omega (arith, some, flight_after j Right (neighbour-below n i Left inside), taken_waits j Right, counts j (left_of n i) (more Left) refl)
    waits_after Right some =
        let n : ℕ = size_of world in
        let j : ℕ = right_of n i in
        omega (arith, some, flight_after j Left (neighbour-below n i Right inside), taken_waits j Left, counts j (right_of n i) (more Right) refl)

    pending_below_after : (m : ℕ) → m ≤ size_of world → pending_below t (after_receipt world i side p) m + cond (nat_lt i m) 1 0
        ≡ pending_below t world m + (cond (nat_lt (right_of (size_of world) i) m) (more Right) 0 + cond (nat_lt (left_of (size_of world) i) m) (more Left) 0)
    pending_below_after zero low =
        omega (arith, counts_nowhere i 1, counts_nowhere (right_of (size_of world) i) (more Right), counts_nowhere (left_of (size_of world) i) (more Left))
    pending_below_after (suc m) low =
        let n : ℕ = size_of world in
        let rest = pending_below_after m (omega arith) in
        let left = flight_after m Left (omega arith) in
        let right = flight_after m Right (omega arith) in
        let stands = λ (w : Running E M) (from : Side). pending_stands t w m from in
        let new = after_receipt world i side p in
        omega (arith, rest, left, right, stands world Left, stands world Right, stands new Left, stands new Right, counts_side m i side, counts_next m i 1, counts_next m (right_of n i) (more Right), counts_next m (left_of n i) (more Left))

    -- the number of packets in flight: one less, and what the receiver has sent
    pub pending_after :
        (pending_of t (after_receipt world i side p) + 1) + (length (sent_of t (node_at world i) Left) + length (sent_of t (node_at world i) Right))
        ≡ pending_of t world + (length (sent_of t (node_at (after_receipt world i side p) i) Left) + length (sent_of t (node_at (after_receipt world i side p) i) Right))
    pending_after =
        let n : ℕ = size_of world in
        let all = pending_below_after n (omega arith) in
        omega
        (arith, all, counts_below n i 1 inside, counts_below n (right_of n i) (more Right) (neighbour-below n i Right inside), counts_below n (left_of n i) (more Left) (neighbour-below n i Left inside), more_sent_by Left, more_sent_by Right)

  -- ---- The bits of the links

  -- what is in flight on a link from which the receiver takes nothing, and whose sender sends nothing more
  flight_kept : (j : ℕ) (from : Side) → (j ≡ i → same_side from side ≡ false) → sent_into t (after_receipt world i side p) j from ≡ sent_into t world j from
      → on_link t (after_receipt world i side p) j from ≡ on_link t world j from
  flight_kept j from away sent =
      ap₂ (λ (taken sent : List (Packet M)). drop (length taken) sent)
      (elim (same_or_not j i) [
        | inl here ↦ rw here (taken_from_other_side t world i within side p from (away here))
        | inr differ ↦ ap (λ (node : Seated E M). taken_of node from) (others_after t world i within side p j differ)
      ])
      sent

  -- a sender that isn't the receiver, and the receiver where it sends nothing more
  sent_by_others : (j : ℕ) (from : Side) → neighbour (size_of world) j from ≢ i → sent_into t (after_receipt world i side p) j from ≡ sent_into t world j from
  sent_by_others j from apart = ap (λ (node : Seated E M). sent_of t node (other from)) (others_after t world i within side p (neighbour (size_of world) j from) apart)

  sent_no_more : (j : ℕ) (from : Side) → neighbour (size_of world) j from ≡ i → more (other from) ≡ 0 → sent_into t (after_receipt world i side p) j from ≡ sent_into t world j from
  unfolding more
  sent_no_more j from at none =
      let grown = receiver_sent t world i within side p (other from) in
      rw at (grown.1 ∙ ap (λ (extra : List (Packet M)). sent_of t (node_at world i) (other from) ++ extra) (no_length grown.0 (omega (arith, none))) ∙ append-nil _)

  module _ (words first second third : List ℕ) (lefts rights : ℕ) (marked : IsMarkedAll t world words) (sound : IsSoundLinks t world) (front : slice_get (on_link t world i side) 0 ≡ Some p) (uncut : is_cut world i side ≡ false)
      (here : HasLeft words i side (length (on_link t world i side) == 1) first) (left : HasMarkedSent t (after_receipt world i side p) first i Left lefts second) (right : HasMarkedSent t (after_receipt world i side p) second i Right rights third)
      (lefts_are : lefts ≡ more Left) (rights_are : rights ≡ more Right) (inside : i < size_of world) where
    -- a mark stays
    stays_right : (j : ℕ) (from : Side) → IsMarked t (after_receipt world i side p) second j from → IsMarked t (after_receipt world i side p) third j from
    stays_right j from is =
        elim right [
          | inl none ↦ rw none.1 is
          | inr some ↦ some.kept j from is
        ]

    stays_left : (j : ℕ) (from : Side) → IsMarked t (after_receipt world i side p) first j from → IsMarked t (after_receipt world i side p) third j from
    stays_left j from is =
        elim left [
          | inl none ↦ stays_right j from (rw none.1 is)
          | inr some ↦ stays_right j from (some.kept j from is)
        ]

    -- no bit changes past the links
    beyond_right : (place : ℕ) → 2 * size_of world ≤ place → bit_of third place ≡ bit_of second place
    beyond_right place past =
        elim right [
          | inl none ↦ ap (λ (l : List ℕ). bit_of l place) none.1
          | inr some ↦ some.beyond place past
        ]

    beyond_left : (place : ℕ) → 2 * size_of world ≤ place → bit_of second place ≡ bit_of first place
    beyond_left place past =
        elim left [
          | inl none ↦ ap (λ (l : List ℕ). bit_of l place) none.1
          | inr some ↦ some.beyond place past
        ]

    -- the link to a neighbour, from the receiver
    from_receiver : (j : ℕ) (from : Side) → j ≡ neighbour (size_of world) i (other from) → (more (other from) ≡ 0 → IsMarked t (after_receipt world i side p) third j from)
        → IsMarked t (after_receipt world i side p) third j from
    from_receiver j Left is same =
        elim right [
          | inl none ↦ same (sym rights_are ∙ none.0)
          | inr some ↦ rw is some.marked
        ]
    from_receiver j Right is same =
        elim left [
          | inl none ↦ same (sym lefts_are ∙ none.0)
          | inr some ↦ rw is (stays_right (left_of (size_of world) i) Right some.marked)
        ]

    -- a link from which the receiver takes nothing
    from_untaken : (j : ℕ) (from : Side) → j < size_of world → (j ≡ i → same_side from side ≡ false) → IsMarked t (after_receipt world i side p) third j from
    from_untaken j from below away =
        let old = marked.each j from below in
        let same : sent_into t (after_receipt world i side p) j from ≡ sent_into t world j from → IsMarked t (after_receipt world i side p) third j from =
        λ sent. let stands = flight_kept j from away sent in
        let other_place : link_place j from ≢ link_place i side = λ at. let link = same_place j i from side at in absurd (not_both (same_side from side) (away link.0) (ap (λ s. same_side from s) (sym link.1) ∙ same_side_self from)) in
        stays_left j from (record {
          bit = here.others (link_place j from) other_place ∙ old.bit ∙ ap (λ (l : List (Packet M)). some_or_none (cond (is_cut world j from) [] l)) (sym stands);
          few = rw stands old.few;
        }) in
        elim (same_or_not (neighbour (size_of world) j from) i) [
          | inr apart ↦ same (sent_by_others j from apart)
          | inl at ↦ from_receiver j from (sym (neighbour-neighbour (size_of world) j from below) ∙ ap (λ k. neighbour (size_of world) k (other from)) at) (λ none. same (sent_no_more j from at none))
        ]

    -- the link from which the packet was taken, where the receiver sends nothing more into it
    left_behind : cond (i == neighbour (size_of world) i (other side)) (more (other side)) 0 ≡ 0 → IsMarked t (after_receipt world i side p) first i side
    left_behind none =
        let before = on_link t world i side in
        let stands = on_link t (after_receipt world i side p) i side in
        let whole = flight_after sound front inside i side inside in
        let one = one_taken i side in
        let few = (marked.each i side inside).few in
        record {
          bit = elim (length before == 1) as (λ b. (length before == 1) ≡ b → bit_of first (link_place i side) ≡ cond b 0 1 → bit_of first (link_place i side) ≡ some_or_none (cond (is_cut world i side) [] stands)) [
            | true ↦ λ e bit. let only = is_one (length before) e in bit ∙ mark_emptied (is_cut world i side) stands (omega (arith, whole, one, none, only))
            | false ↦ λ e bit.
                let more_than_one = isnt_one (length before) e in
                let some = some_length before p front in
                bit ∙ mark_standing (is_cut world i side) stands uncut (omega (arith, whole, one, none, more_than_one, some))
          ] refl here.bit;
          few = omega (arith, whole, one, none, few);
        }

    from_itself : IsMarked t (after_receipt world i side p) third i side
    from_itself =
        elim (same_or_not i (neighbour (size_of world) i (other side))) [
          | inr apart ↦ stays_left i side (left_behind (counts_not i (neighbour (size_of world) i (other side)) (more (other side)) apart))
          | inl at ↦ from_receiver i side at (λ none. stays_left i side (left_behind (counts i (neighbour (size_of world) i (other side)) (more (other side)) at ∙ none)))
        ]

    marks_each : (j : ℕ) (from : Side) → j < size_of world → IsMarked t (after_receipt world i side p) third j from
    marks_each j from below =
        elim (same_side from side) as (λ b. same_side from side ≡ b → IsMarked t (after_receipt world i side p) third j from) [
          | false ↦ λ e. from_untaken j from below (λ _. e)
          | true ↦ λ e.
              elim (same_or_not j i) [
                | inl at ↦ rw (at, same_side-same from side e) from_itself
                | inr differ ↦ from_untaken j from below (λ at. absurd (differ at))
              ]
        ] refl

    -- all links are marked once those are that the receipt touches
    pub marks_after : IsMarkedAll t (after_receipt world i side p) third
    marks_after = record {
      each = marks_each;
      beyond = λ place past. beyond_right place past ∙ beyond_left place past ∙ here.others place (let below = place_below (size_of world) i side inside in omega (arith, below, past)) ∙ marked.beyond place past;
    }

-- ---- A world after a receipt

module _ {E S M : Type 0} (t : E → Table S M) (fits : E → Fitting M) (winner : E → List ℕ → ℕ) (world : Running E M) (pending : ℕ) (words : List ℕ)
    (tallied : IsTallied t world fits winner pending words) (i : ℕ) (inside : i < size_of world) (side : Side) (p : Packet M) (front : slice_get (on_link t world i side) 0 ≡ Some p)
    (new : Running E M) (moved : new ≡ after_receipt world i side p) where
  place_within : i < length world.journals
  place_within = rw tallied.sound.count inside

  -- the receiver has sent no less than before
  pub sent_grown : (to : Side) (before : ℕ) → before ≡ length (sent_of t (node_at world i) to) → before ≤ length (sent_of t (node_at new i) to)
  sent_grown to before is = let grown = more_sent_by t world i place_within side p to in rw moved (omega (arith, grown, is))

  -- and where it has sent more, something is in flight there
  pub sent_waits : (to : Side) (before : ℕ) → before ≡ length (sent_of t (node_at world i) to) → before < length (sent_of t (node_at new i) to)
      → 0 < length (on_link t new (neighbour (size_of new) i to) (other to))
  sent_waits to before is less =
      let grown = more_sent_by t world i place_within side p to in
      rw moved (waits_after t world i place_within side p tallied.sound.links front inside to (omega (arith, grown, is, rw moved at less)))

  -- how much more it has sent
  more_is : (to : Side) (before extra : ℕ) → before ≡ length (sent_of t (node_at world i) to) → before + extra ≡ length (sent_of t (node_at new i) to) → extra ≡ more t world i place_within side p to
  more_is to before extra is whole = let grown = more_sent_by t world i place_within side p to in omega (arith, grown, is, rw moved at whole)

  -- the number that is kept is far below the limit of the number
  pub count_few : pending ≤ 9444732965739290427392
  count_few =
      let few = pending_few t world words tallied.marked (size_of world) (omega arith) in
      let short = tallied.sound.is_ring.short in
      let counted = tallied.counted in
      omega (arith, few, short, counted)

  module _ (left right lefts rights : ℕ) (left_is : left ≡ length (sent_of t (node_at world i) Left)) (right_is : right ≡ length (sent_of t (node_at world i) Right))
      (lefts_are : left + lefts ≡ length (sent_of t (node_at new i) Left)) (rights_are : right + rights ≡ length (sent_of t (node_at new i) Right)) where
    -- the number that is kept, and what the receiver has sent more, give the number afterwards
    pub count_after : pending_of t new + 1 ≡ (pending + lefts) + rights
    count_after =
        let whole = pending_after t world i place_within side p tallied.sound.links front inside in
        let counted = tallied.counted in
        rw moved (omega (arith, whole, counted, left_is, right_is, rw moved at lefts_are, rw moved at rights_are))

    pub tally_after : IsSoundWorld t fits winner new → is_cut world i side ≡ false → (first second third : List ℕ) → HasLeft words i side (length (on_link t world i side) == 1) first → HasMarkedSent t new first i Left lefts second → HasMarkedSent t new second i Right rights third
        → IsTallied t new fits winner (((pending + lefts) + rights) - 1) third
    tally_after sound uncut first second third here there beyond = record {
      sound = sound;
      counted = let whole = count_after in omega arith;
      marked =
          rw moved
          (marks_after t world i place_within side p words first second third lefts rights tallied.marked tallied.sound.links front uncut here (rw moved at there) (rw moved at beyond)
          (more_is Left left lefts left_is lefts_are) (more_is Right right rights right_is rights_are) inside);
    }
