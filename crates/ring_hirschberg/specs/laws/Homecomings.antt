-- How many of a member's tokens come home in a sound family, and so how far its phase gets.
use Rattle.std.specs.Prelude.{◌≡◌, ◌≢◌, ◌+◌, ◌-◌, ◌^◌, ◌<◌, ◌≤◌, ℕ, zero, suc, List, length, Some, slice_get}
use Rattle.std.proofs.Common.{◌∙◌, ap, arith, get_or, refl, sym}
use Rattle.std.proofs.lemmas.Option.{slice_get-get_or, slice_get_within}
use Rattle.ring_id.specs.declared.side.Side.{Side}
use Rattle.ring_id.specs.Sides.{other}
use Rattle.ring_roster.specs.Ring.{IsRing}
use Rattle.ring_election.specs.Families.{IsSound}
use Rattle.ring_election.specs.Traces.{sent_after, state_after, taken_from}
use Rattle.ring_election.proofs.Rings.{same_position}
use Rattle.ring_hirschberg.specs.declared.hirschberg.HirschbergMsg.{HirschbergMsg}
use Rattle.ring_hirschberg.specs.Hirschberg.{ceil_log2, hirschberg_table, phase}
use Rattle.ring_hirschberg.specs.laws.Logarithm.{ceil_log2-reaches}
use Rattle.ring_hirschberg.specs.laws.Passing.{is_back, is_near, passes_less}
use Rattle.ring_hirschberg.specs.laws.Tokens.{own_back, own_low, phase_back}
use Rattle.ring_hirschberg.specs.laws.Walks.{walk, walk_away, walk_below, walk_home}
use Rattle.ring_hirschberg.specs.laws.Weights.{from_ahead, from_behind, weight}

-- one value is at one place
some_injective : (x y : ℕ) → Some x ≡ Some y → x ≡ y
some_injective x y e = cc

-- some member is at each position
pub member_at : (ring : List ℕ) (i : ℕ) → i < length ring → (x : ℕ) × (slice_get ring i ≡ Some x)
member_at ring i below = (get_or ring i 0, slice_get-get_or ring i 0 below)

-- the positions from that of the member v on, walking to one side
module _ (ring : List ℕ) (is : IsRing ring) (p v : ℕ) (here : slice_get ring p ≡ Some v) (side : Side) where
  -- the position this many steps from home
  abbrev at : ℕ → ℕ
  at steps = walk (length ring) p side steps

  at_below : (steps : ℕ) → at steps < length ring
  at_below steps = walk_below (length ring) p side steps (slice_get_within ring p v here)

  -- n steps lead to v again
  pub home_again : (steps : ℕ) → steps ≡ length ring → slice_get ring (at steps) ≡ Some v
  home_again steps all =
      ap (λ n. slice_get ring (at n)) all ∙ (ap (slice_get ring) (walk_home (length ring) p side (slice_get_within ring p v here)) ∙ here)

  -- fewer lead to others
  pub other_member : (steps x : ℕ) → 1 ≤ steps → steps < length ring → slice_get ring (at steps) ≡ Some x → x ≢ v
  other_member steps x some few there e =
      walk_away (length ring) p side steps (slice_get_within ring p v here) some few (same_position ring (at steps) p v is (there ∙ ap Some e) here)

  module _ (family : ℕ → List (Side × HirschbergMsg)) (sound : IsSound hirschberg_table ring family) where
    -- Take a position some steps from home, before a position that sends none of v's tokens home.
    -- It takes no more tokens of v on their way home than it sent on that can be turned before that
    -- one.
    pub back_near_to : (stop : ℕ) → stop ≤ length ring →
        ((y : ℕ) → slice_get ring (at stop) ≡ Some y → weight (is_back v) (sent_after hirschberg_table y (other side) (family (at stop))) ≡ 0) →
        (steps left x : ℕ) → steps + left + 1 ≡ stop → slice_get ring (at steps) ≡ Some x →
        weight (is_back v) (taken_from side (family (at steps))) ≤ weight (is_near v left) (sent_after hirschberg_table x side (family (at steps)))
    back_near_to stop within none steps zero x all there =
        let next = member_at ring (at (suc steps)) (at_below (suc steps)) in
        let last : suc steps ≡ stop = omega arith in
        let sent : weight (is_back v) (sent_after hirschberg_table next.0 (other side) (family (at (suc steps)))) ≡ weight (is_back v) (sent_after hirschberg_table next.0 (other side) (family (at stop))) =
        ap (λ n. weight (is_back v) (sent_after hirschberg_table next.0 (other side) (family (at n)))) last in
        omega (
          arith,
          from_ahead hirschberg_table ring family (at steps) side (at_below steps) (is_back v) next.0 sound next.1,
          sent,
          none next.0 (ap (λ n. slice_get ring (at n)) (sym last) ∙ next.1),
        )
    back_near_to stop within none steps (suc left) x all there =
        let next = member_at ring (at (suc steps)) (at_below (suc steps)) in
        omega (
          arith,
          from_ahead hirschberg_table ring family (at steps) side (at_below steps) (is_back v) next.0 sound next.1,
          passes_less side next.0 v (family (at (suc steps))) left (other_member (suc steps) next.0 (omega arith) (omega arith) next.1),
          back_near_to stop within none (suc steps) left next.0 (omega arith) next.1,
          from_behind hirschberg_table ring family (at steps) side (at_below steps) (is_near v (suc left)) x sound there,
        )

    -- v's own position sends none of them home. So no position takes more of them than it sent on
    -- that can be turned before they come home.
    pub back_near : (steps left x : ℕ) → steps + left + 1 ≡ length ring → slice_get ring (at steps) ≡ Some x →
        weight (is_back v) (taken_from side (family (at steps))) ≤ weight (is_near v left) (sent_after hirschberg_table x side (family (at steps)))
    back_near steps left x all there =
        back_near_to (length ring) (omega arith)
        (λ y last.
        let own : y ≡ v = some_injective y v (sym last ∙ home_again (length ring) refl) in
        ap (λ w. weight (is_back v) (sent_after hirschberg_table w (other side) (family (at (length ring))))) own ∙ own_back v (family (at (length ring))) (other side))
        steps left x all there

    -- no phase exceeds the logarithm of the number of members, rounded up
    pub phase_small : phase (state_after hirschberg_table v (family p)) ≤ ceil_log2 (length ring)
    phase_small =
        let some : 1 ≤ length ring = is.some in
        let far : length ring - 1 < 2 ^ ceil_log2 (length ring) = omega (arith, ceil_log2-reaches (length ring)) in
        omega (
          arith,
          phase_back v (family p) side,
          back_near 0 (length ring - 1) v (omega arith) here,
          own_low v (family p) side (length ring - 1) (ceil_log2 (length ring)) far,
        )
