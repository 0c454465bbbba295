-- If every sent message was taken, the greatest member has decided (Lynch, Distributed Algorithms,
-- 3.4).
use Rattle.std.specs.Prelude.{◌≡◌, ◌≢◌, ◌+◌, ◌-◌, ◌^◌, ◌<◌, ◌≤◌, ◌⊎◌, ℕ, zero, suc, min, List, [], ◌∷◌, length, Some, slice_get}
use Rattle.std.proofs.Common.{ap, inl, inr, arith}
use Rattle.std.proofs.lemmas.Bool.{cases_lt}
use Rattle.std.proofs.lemmas.Bool.Decides.{nat_tests}
use Rattle.std.proofs.lemmas.Option.{slice_get_within}
use Rattle.ring_id.specs.declared.side.Side.{Side}
use Rattle.ring_id.specs.declared.side.Side.TheVariants.{Left, Right}
use Rattle.ring_id.specs.Sides.{other}
use Rattle.ring_roster.specs.Ring.{IsRing, greatest_of}
use Rattle.ring_election.specs.Families.{IsComplete}
use Rattle.ring_election.specs.Laws.{Deciding}
use Rattle.ring_election.specs.Traces.{sent_after, state_after, state_from, taken_from}
use Rattle.ring_election.proofs.Rings.{greatest-at_least, greatest-is_in, same_position}
use Rattle.ring_hirschberg.specs.declared.hirschberg.HirschbergMsg.{HirschbergMsg}
use Rattle.ring_hirschberg.specs.declared.hirschberg.HirschbergState.{HirschbergState}
use Rattle.ring_hirschberg.specs.Hirschberg.{hirschberg_first, hirschberg_fits, hirschberg_next, hirschberg_table, phase}
use Rattle.ring_hirschberg.specs.laws.States.{IsOwn, decision_stays, own_first, own_next}
use Rattle.ring_hirschberg.specs.laws.Logarithm.{ceil_log2-small}
use Rattle.ring_hirschberg.specs.laws.Passing.{is_back, is_near, is_out, near_is_out, passes_same}
use Rattle.ring_hirschberg.specs.laws.Tokens.{back_phase, own_near}
use Rattle.ring_hirschberg.specs.laws.Homecomings.{home_again, member_at, other_member, phase_small}
use Rattle.ring_hirschberg.specs.laws.Walks.{walk, walk_below}
use Rattle.ring_hirschberg.specs.laws.Weights.{all_ahead, all_behind, by_side, complete_sound, weight, weight-less, weight-taken}

-- a node decides when it takes its own token on the way out
receipt_decides : (s : HirschbergState) (side from : Side) (me : ℕ) (m : HirschbergMsg) → s.me ≡ me → 1 ≤ by_side (is_out me) side from m →
    (hirschberg_next s from m).decided ≡ Some me
receipt_decides s side from me m is came = grind (arith, nat_tests)

-- one receipt more, if the node had decided before or takes its own token now or later
decided_or_later : (side : Side) (me : ℕ) (s : HirschbergState) (from : Side) (m : HirschbergMsg) (receipts : List (Side × HirschbergMsg)) → IsOwn me s →
    (s.decided ≡ Some me) ⊎ (1 ≤ weight (is_out me) (taken_from side ((from, m) ∷ receipts))) →
    ((hirschberg_next s from m).decided ≡ Some me) ⊎ (1 ≤ weight (is_out me) (taken_from side receipts))
decided_or_later side me s from m receipts is either =
    elim either [
      | inl decided ↦ inl (decision_stays me s from m me is decided)
      | inr some ↦
          elim (cases_lt 0 (weight (is_out me) (taken_from side receipts))) [
            | inl later ↦ inr later
            | inr none ↦ inl (receipt_decides s side from me m is.same (omega (arith, weight-taken (is_out me) side from m receipts)))
          ]
    ]

-- after any receipts, if it had decided before or takes its own token among them
decided_from : (side : Side) (me : ℕ) (s : HirschbergState) (receipts : List (Side × HirschbergMsg)) → IsOwn me s →
    (s.decided ≡ Some me) ⊎ (1 ≤ weight (is_out me) (taken_from side receipts)) → (state_from hirschberg_table s receipts).decided ≡ Some me
decided_from side me s [] is either = elim either [ inl decided ↦ decided | inr some ↦ absurd (omega arith) ]
decided_from side me s (r ∷ receipts) is either =
    decided_from side me (hirschberg_next s r.0 r.1) receipts (own_next me s r.0 r.1 is) (decided_or_later side me s r.0 r.1 receipts is either)

-- `most`, raised by one for each step
further : ℕ → ℕ → ℕ
further zero most = most
further (suc steps) most = suc (further steps most)

-- it is no less
further-le : (steps most : ℕ) → most ≤ further steps most
unfolding further
further-le zero most = omega arith
further-le (suc steps) most = omega (arith, further-le steps most)

-- a complete family, and the greatest member v
module _ (ring : List ℕ) (is : IsRing ring) (p v : ℕ) (here : slice_get ring p ≡ Some v) (others : (j x : ℕ) → slice_get ring j ≡ Some x → x ≤ v)
    (family : ℕ → List (Side × HirschbergMsg)) (complete : IsComplete hirschberg_table ring family) where
  -- the position this many steps from home
  abbrev at : Side → ℕ → ℕ
  at side steps = walk (length ring) p side steps

  -- it is a position, and after n steps it is home again
  at_below : (side : Side) (steps : ℕ) → at side steps < length ring
  at_below side steps = walk_below (length ring) p side steps (slice_get_within ring p v here)

  at_home : (side : Side) (steps : ℕ) → steps ≡ length ring → at side steps ≡ p
  at_home side steps all = same_position ring (at side steps) p v is (home_again ring is p v here side steps all) here

  -- At any number of steps from home, each token of v that is sent on either comes home from there,
  -- or goes all round.
  returned : (side : Side) (most steps left x : ℕ) → steps + left + 1 ≡ length ring → slice_get ring (at side steps) ≡ Some x →
      weight (is_near v (further left most)) (sent_after hirschberg_table x side (family (at side steps))) ≤
      weight (is_back v) (taken_from side (family (at side steps))) + weight (is_near v most) (taken_from (other side) (family p))
  unfolding further
  returned side most steps zero x all there =
      omega (
        arith,
        ap (weight (is_near v most)) (all_behind hirschberg_table ring family (at side steps) side (at_below side steps) x complete there),
        ap (λ i. weight (is_near v most) (taken_from (other side) (family i))) (at_home side (suc steps) (omega arith)),
      )
  returned side most steps (suc left) x all there =
      let next = member_at ring (at side (suc steps)) (at_below side (suc steps)) in
      let differs : next.0 ≢ v = other_member ring is p v here side (suc steps) next.0 (omega arith) (omega arith) next.1 in
      let less : next.0 < v = omega (arith, others (at side (suc steps)) next.0 next.1) in
      omega (
        arith,
        ap (weight (is_near v (suc (further left most)))) (all_behind hirschberg_table ring family (at side steps) side (at_below side steps) x complete there),
        ap (weight (is_back v)) (all_ahead hirschberg_table ring family (at side steps) side (at_below side steps) next.0 complete next.1),
        passes_same side next.0 v (family (at side (suc steps))) (further left most) less,
        returned side most (suc steps) left next.0 (omega arith) next.1,
      )

  -- the phase that v came to
  abbrev last : ℕ
  last = phase (state_after hirschberg_table v (family p))

  -- the tokens that came round from that side, among those that are near at that phase
  abbrev round : Side → ℕ
  round side = weight (is_near v (2 ^ last)) (taken_from side (family p))

  -- each of v's own tokens came home from the side that it was sent to, or went all round
  own_returned : (side : Side) → suc last ≤ weight (is_back v) (taken_from side (family p)) + round (other side)
  own_returned side =
      let some : 1 ≤ length ring = is.some in
      omega (
        arith,
        own_near v (family p) side (further (length ring - 1) (2 ^ last)) (further-le (length ring - 1) (2 ^ last)),
        returned side (2 ^ last) 0 (length ring - 1) v (omega arith) here,
      )

  -- if none went round, v would be in phase 16
  some_round : round Left ≤ 0 → round Right ≤ 0 → ⊥
  some_round left right =
      let small : last ≤ 8 = omega (arith, phase_small ring is p v here Left family (complete_sound hirschberg_table ring family complete), ceil_log2-small (length ring) is.short) in
      let more : min 16 (suc last) ≤ last = back_phase v (family p) (suc last) (omega (arith, own_returned Left)) (omega (arith, own_returned Right)) in
      omega arith

  -- if one went round, v has decided
  round_decides : (side : Side) → 0 < round side → (state_after hirschberg_table v (family p)).decided ≡ Some v
  round_decides side came =
      let out = weight-less (is_near v (2 ^ last)) (is_out v) (taken_from side (family p)) (near_is_out v (2 ^ last)) in
      decided_from side v (hirschberg_first v) (family p) (own_first v) (inr (omega (arith, out)))

  -- the greatest member decides
  greatest_decides : (state_after hirschberg_table v (family p)).decided ≡ Some v
  greatest_decides =
      elim (cases_lt 0 (round Left)) [
        | inl came ↦ round_decides Left came
        | inr left ↦ elim (cases_lt 0 (round Right)) [ inl came ↦ round_decides Right came | inr right ↦ absurd (some_round left right) ]
      ]

-- Hirschberg-Sinclair decides every complete family
pub hirschberg_deciding : Deciding hirschberg_table hirschberg_fits
hirschberg_deciding = record {
  complete_decides = λ ring family is fit complete.
      let top = greatest-is_in ring is.some in
      record {
        position = top.place;
        me = greatest_of ring;
        leader = greatest_of ring;
        there = top.there;
        decided = greatest_decides ring is top.place (greatest_of ring) top.there (λ j x there. greatest-at_least ring x (record { place = j; there = there })) family complete;
      };
}
