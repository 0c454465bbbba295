-- An election takes at most 4 n n (1 + ceil(log2 n)) messages. Of each member's tokens, a position
-- takes at most 1 + ceil(log2 n) on their way out from either side. It takes as many on their way
-- home. (Lynch, Distributed Algorithms, 3.4, counts a phase's tokens and has 8 n (1 + ceil(log2
-- n)): see Work.)
use Rattle.std.specs.Prelude.{◌≡◌, ◌+◌, ◌-◌, ◌*◌, ◌<◌, ◌≤◌, ℕ, zero, suc, List, [], ◌∷◌, length, Some, slice_get}
use Rattle.std.proofs.Common.{◌∙◌, ap, refl, le_trans, arith}
use Rattle.std.proofs.lemmas.Bool.Decides.{nat_tests}
use Rattle.std.proofs.lemmas.Option.{slice_get_within}
use Rattle.ring_id.specs.declared.side.Side.{Side}
use Rattle.ring_id.specs.declared.side.Side.TheVariants.{Left, Right}
use Rattle.ring_id.specs.Sides.{other}
use Rattle.ring_roster.specs.Ring.{IsRing, neighbour}
use Rattle.ring_election.specs.Families.{FamilyFits, IsSound, taken_in_all}
use Rattle.ring_election.specs.Laws.{Bounded}
use Rattle.ring_election.specs.Traces.{sent_after, taken_from}
use Rattle.ring_election.proofs.Families.{length-taken, taken_in_all-at_most}
use Rattle.ring_election.proofs.Rings.{neighbour-below}
use Rattle.ring_hirschberg.specs.declared.hirschberg.HirschbergMsg.{HirschbergMsg}
use Rattle.ring_hirschberg.specs.declared.hirschberg.HirschbergMsg.TheVariants.{Out, Back}
use Rattle.ring_hirschberg.specs.Hirschberg.{IsMember, allows, ceil_log2, hirschberg_bound, hirschberg_fits, hirschberg_table}
use Rattle.ring_hirschberg.specs.laws.Lawful.{member_of}
use Rattle.ring_hirschberg.specs.laws.Passing.{is_back, is_near, is_out, near_is_out, passes_out}
use Rattle.ring_hirschberg.specs.laws.Tokens.{own_out}
use Rattle.ring_hirschberg.specs.laws.Homecomings.{back_near, member_at, other_member, phase_small}
use Rattle.ring_hirschberg.specs.laws.Walks.{walk, walk_below, walk_reaches}
use Rattle.ring_hirschberg.specs.laws.Weights.{from_ahead, from_behind, weight, weight-at, weight-bound, weight-less, weight-plus}

-- the tokens of one member v in a sound family
module _ (ring : List ℕ) (is : IsRing ring) (family : ℕ → List (Side × HirschbergMsg)) (sound : IsSound hirschberg_table ring family) (p v : ℕ) (here : slice_get ring p ≡ Some v) where
  -- the position this many steps from home
  abbrev at : Side → ℕ → ℕ
  at side steps = walk (length ring) p side steps

  at_below : (side : Side) (steps : ℕ) → at side steps < length ring
  at_below side steps = walk_below (length ring) p side steps (slice_get_within ring p v here)

  -- any position sends at most this many of them out to a side, since they come from v's own
  outs : (side : Side) (steps x : ℕ) → steps < length ring → slice_get ring (at side steps) ≡ Some x →
      weight (is_out v) (sent_after hirschberg_table x side (family (at side steps))) ≤ 1 + ceil_log2 (length ring)
  outs side zero x below there =
      let same : x ≡ v = cc in
      omega (
        arith,
        ap (λ w. weight (is_out v) (sent_after hirschberg_table w side (family p))) same,
        own_out v (family p) side,
        phase_small ring is p v here side family sound,
      )
  outs side (suc steps) x below there =
      let before = member_at ring (at side steps) (at_below side steps) in
      omega (
        arith,
        passes_out side x v (family (at side (suc steps))) (other_member ring is p v here side (suc steps) x (omega arith) below there),
        from_behind hirschberg_table ring family (at side steps) side (at_below side steps) (is_out v) before.0 sound before.1,
        outs side steps before.0 (omega arith) before.1,
      )

  -- the same for a position however it is reached
  sends_few : (side : Side) (i x : ℕ) → slice_get ring i ≡ Some x → weight (is_out v) (sent_after hirschberg_table x side (family i)) ≤ 1 + ceil_log2 (length ring)
  sends_few side i x there =
      let reached = walk_reaches (length ring) p side i (slice_get_within ring p v here) (slice_get_within ring i x there) in
      omega (
        arith,
        ap (λ j. weight (is_out v) (sent_after hirschberg_table x side (family j))) reached.2,
        outs side reached.0 x reached.1 (ap (slice_get ring) reached.2 ∙ there),
      )

  -- any position takes at most this many of them on their way out from a side
  takes_few_out : (side : Side) (i : ℕ) → i < length ring → weight (is_out v) (taken_from side (family i)) ≤ 1 + ceil_log2 (length ring)
  takes_few_out side i below =
      let sender = member_at ring (neighbour (length ring) i side) (neighbour-below (length ring) i side below) in
      omega (
        arith,
        from_ahead hirschberg_table ring family i side below (is_out v) sender.0 sound sender.1,
        sends_few (other side) (neighbour (length ring) i side) sender.0 sender.1,
      )

  -- and as many on their way home, since they were turned further on
  takes_few_back : (side : Side) (i : ℕ) → i < length ring → weight (is_back v) (taken_from side (family i)) ≤ 1 + ceil_log2 (length ring)
  takes_few_back side i below =
      let reached = walk_reaches (length ring) p side i (slice_get_within ring p v here) below in
      let left = length ring - 1 - reached.0 in
      let x = member_at ring (at side reached.0) (at_below side reached.0) in
      omega (
        arith,
        ap (λ j. weight (is_back v) (taken_from side (family j))) reached.2,
        back_near ring is p v here side family sound reached.0 left x.0 (omega (arith, reached.1)) x.1,
        weight-less (is_near v left) (is_out v) (sent_after hirschberg_table x.0 side (family (at side reached.0))) (near_is_out v left),
        sends_few side (at side reached.0) x.0 x.1,
      )

-- the owner of a token
abbrev pub owner : HirschbergMsg → ℕ
owner (Out v hops) = v
owner (Back v) = v

-- the owner is a member, if the message may be on a link
pub owner_is_member : (ring : List ℕ) (i : ℕ) (side : Side) (m : HirschbergMsg) → allows ring i side m → IsMember ring (owner m)
owner_is_member ring i side (Out v hops) fit = member_of ring side v i fit.1
owner_is_member ring i side (Back v) fit = fit

-- it is one token of its owner
owner_counted : (m : HirschbergMsg) → is_out (owner m) m + is_back (owner m) m ≡ 1
owner_counted m = grind (arith, nat_tests)

-- the number of tokens of v among some messages
abbrev pub tokens_of : List HirschbergMsg → ℕ → ℕ
tokens_of ms v = weight (is_out v) ms + weight (is_back v) ms

-- messages of members are no more than the tokens of all members among them
pub members_cover : (ring : List ℕ) (ms : List HirschbergMsg) → ((k : ℕ) (m : HirschbergMsg) → slice_get ms k ≡ Some m → IsMember ring (owner m)) → length ms ≤ weight (tokens_of ms) ring
members_cover ring [] each = omega arith
members_cover ring (m ∷ ms) each =
    let first = each 0 m refl in
    omega (
      arith,
      owner_counted m,
      weight-at (λ v. is_out v m + is_back v m) ring first.0 (owner m) first.1,
      members_cover ring ms (λ k n there. each (suc k) n there),
      weight-plus (λ v. is_out v m + is_back v m) (tokens_of ms) ring,
      weight-less (λ v. (is_out v m + is_back v m) + tokens_of ms v) (tokens_of (m ∷ ms)) ring (λ v. omega arith),
    )

-- n positions, two sides, n members, and twice that many of each member's tokens
square : (n b : ℕ) → n * (n * (b + b) + n * (b + b)) ≤ 4 * (n * n) * b
square n b = omega arith

-- a sound family that fits
module _ (ring : List ℕ) (is : IsRing ring) (family : ℕ → List (Side × HirschbergMsg)) (fit : FamilyFits hirschberg_fits ring family) (sound : IsSound hirschberg_table ring family) where
  -- the most that any position takes from one side
  abbrev per_side : ℕ
  per_side = length ring * ((1 + ceil_log2 (length ring)) + (1 + ceil_log2 (length ring)))

  -- a position takes at most this many messages from a side
  takes_few : (side : Side) (i : ℕ) → i < length ring → length (taken_from side (family i)) ≤ per_side
  takes_few side i below =
      omega (
        arith,
        members_cover ring (taken_from side (family i)) (λ k m there. owner_is_member ring (neighbour (length ring) i side) (other side) m ((fit.at i below).each side k m there)),
        weight-bound (tokens_of (taken_from side (family i))) ((1 + ceil_log2 (length ring)) + (1 + ceil_log2 (length ring))) ring
            (λ p v here. omega (arith, takes_few_out ring is family sound p v here side i below, takes_few_back ring is family sound p v here side i below)),
      )

  -- all positions together stay within the bound
  all_take_few : taken_in_all (length ring) family ≤ hirschberg_bound (length ring)
  all_take_few =
      le_trans
      (taken_in_all-at_most (length ring) (per_side + per_side) family (λ i below. omega (arith, length-taken (family i), takes_few Left i below, takes_few Right i below)))
      (square (length ring) (1 + ceil_log2 (length ring)))

-- the messages of Hirschberg-Sinclair are bounded
pub hirschberg_bounded : Bounded hirschberg_table hirschberg_fits hirschberg_bound
hirschberg_bounded = record { work_is_bounded = λ ring family is fit sound. all_take_few ring is family fit sound }
