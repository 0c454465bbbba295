-- The rounds that remain: those of a ring, once some of them are over.
use Rattle.std.proofs.Common.{◌≡◌, ◌<◌, ◌≤◌, ℕ, zero, suc, Bool, cond, List, [], ◌∷◌, length, Some, slice_get, slice_index, get_or, refl, sym, ap, ◌∙◌, arith}
use Rattle.std.proofs.lemmas.Bool.{lt-ltb}
use Rattle.std.proofs.lemmas.Option.{get_or_from_slice_get}
use Rattle.ring_roster.specs.Ring.{IsRing}
use Rattle.ring_peterson.specs.Rounds.{Round, first_round, identity_of, last_round, peterson_winner}
use Rattle.ring_peterson.specs.laws.Walk.{walk_last, walk_next}
use Rattle.ring_peterson.specs.laws.FirstRound.{IsRound-first, length-first}
use Rattle.ring_peterson.specs.laws.Reading.{last_round-walk}
use Rattle.ring_peterson.specs.laws.Shrinks.{length-next_half, length-next_some}
use Rattle.ring_peterson.specs.laws.Values.{IsRound, IsRound-next}

-- a round of this ring, from which its last round is at most `limit` rounds on
pub record IsRemaining (ring : List ℕ) (round : Round) : Type 0 where
  pub is_round : IsRound (length ring) round
  pub some : 1 ≤ length round
  pub limit : ℕ
  pub enough : length round ≤ limit
  pub same : walk_last limit round ≡ last_round (length ring) (first_round ring)

-- the first round is such a round
pub IsRemaining-first : (ring : List ℕ) (round : Round) → IsRing ring → round ≡ first_round ring → IsRemaining ring round
IsRemaining-first ring round is_ring is =
    let some = is_ring.some in
    let size = length-first 0 ring in
    let first = IsRound-first ring is_ring in
    rw is (record {
      is_round = first;
      some = omega arith;
      limit = length ring;
      enough = omega arith;
      same = sym (last_round-walk (length ring) (length ring) (first_round ring) first.rises);
    })

-- the next round has fewer entries
pub length-next : (round : Round) → 2 ≤ length round → length (walk_next round) < length round
length-next round two = let half = length-next_half round in omega arith

-- the last round from here is the last round from the next one
next_remains : (ring : List ℕ) (round : Round) (limit : ℕ) → 2 ≤ length round → length round ≤ limit → walk_last limit round ≡ last_round (length ring) (first_round ring)
    → IsRound (length ring) round → IsRemaining ring (walk_next round)
next_remains ring round zero two enough same is_round = absurd (omega arith)
next_remains ring round (suc limit) two enough same is_round =
    let half = length-next_half round in
    let step = ap (λ (b : Bool). cond b (walk_last limit (walk_next round)) round) (lt-ltb 1 (length round) two) in
    record {
      is_round = IsRound-next (length ring) round is_round;
      some = length-next_some (length ring) round is_round two;
      limit = limit;
      enough = omega arith;
      same = sym step ∙ same;
    }

-- the round after such a round is one too
pub IsRemaining-next : (ring : List ℕ) (round later : Round) → 2 ≤ length round → later ≡ walk_next round → IsRemaining ring round → IsRemaining ring later
IsRemaining-next ring round later two is h = rw is (next_remains ring round h.limit two h.enough h.same h.is_round)

-- the position of the first entry is one of the ring
pub first_within : (ring : List ℕ) (round : Round) (e : ℕ × ℕ) → e ≡ get_or round 0 e → IsRemaining ring round → e.0 < length ring
first_within ring [] e is h = absurd (let some = h.some in omega arith)
first_within ring (f ∷ round) e is h =
    let position = ap (λ (x : ℕ × ℕ). x.0) is in
    let below = h.is_round.rises.0.below in
    omega arith

-- a round of one is the last
walk_last-one : (limit : ℕ) (e : ℕ × ℕ) → walk_last limit (e ∷ []) ≡ e ∷ []
walk_last-one zero e = refl
walk_last-one (suc limit) e = refl

-- if one entry is left, the member at its position wins
pub one_remains : (ring : List ℕ) (round : Round) (e : ℕ × ℕ) (leader : ℕ) → length round ≤ 1 → e ≡ get_or round 0 e → slice_get ring e.0 ≡ Some leader → IsRemaining ring round → leader ≡ peterson_winner ring
one_remains ring [] e leader one is there h = absurd (let some = h.some in omega arith)
one_remains ring (f ∷ []) e leader one is there h =
    sym (get_or_from_slice_get ring e.0 leader 0 there)
    ∙ (ap (λ (x : ℕ × ℕ). slice_index ring x.0) is ∙ ap (identity_of ring) (sym (walk_last-one h.limit f) ∙ h.same))
one_remains ring (f ∷ (g ∷ round)) e leader one is there h = absurd (omega arith)
