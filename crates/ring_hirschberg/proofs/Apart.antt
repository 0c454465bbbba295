-- A member that comes to a phase is greater than all members near it. So any two that come to it
-- are far apart.
use Rattle.std.proofs.Common.{◌≡◌, ◌+◌, ◌-◌, ◌^◌, ◌<◌, ◌≤◌, ℕ, suc, List, length, Some, slice_get, sym, ap, ◌∙◌, arith}
use Rattle.std.proofs.lemmas.Bool.Decides.{nat_tests}
use Rattle.ring_id.specs.declared.side.Side.{Side}
use Rattle.ring_id.specs.Sides.{other}
use Rattle.ring_roster.specs.Ring.{IsRing}
use Rattle.ring_election.specs.Families.{IsSound}
use Rattle.ring_election.specs.Tables.{to_side}
use Rattle.ring_election.specs.Traces.{sent_after, sent_from, state_after, taken_from}
use Rattle.ring_hirschberg.specs.declared.hirschberg.HirschbergMsg.{HirschbergMsg}
use Rattle.ring_hirschberg.specs.declared.hirschberg.HirschbergState.{HirschbergState}
use Rattle.ring_hirschberg.specs.Hirschberg.{hirschberg_first, hirschberg_first_sends, hirschberg_sends, hirschberg_table, phase}
use Rattle.ring_hirschberg.specs.laws.Homecomings.{back_near, back_near_to}
use Rattle.ring_hirschberg.specs.laws.Passing.{is_back, is_near, is_out, near_is_out}
use Rattle.ring_hirschberg.specs.laws.Receipts.{any_receipt}
use Rattle.ring_hirschberg.specs.laws.States.{IsOwn, own_first, own_next}
use Rattle.ring_hirschberg.specs.laws.Tokens.{own_low, phase_back}
use Rattle.ring_hirschberg.specs.laws.Walks.{walk}
use Rattle.ring_hirschberg.specs.laws.Weights.{by_side, sent_weight-less, weight, weight-less, weight-listed, weight-zero, weight_of}

-- ---- At a greater member

first_out : (side : Side) (x v : ℕ) → v < x → weight_of (is_out v) (to_side side (hirschberg_first_sends x)) ≡ 0
first_out side x v less = grind (arith, nat_tests)

first_back : (side : Side) (x v : ℕ) → weight_of (is_back v) (to_side side (hirschberg_first_sends x)) ≡ 0
first_back side x v = grind (arith, nat_tests)

-- one receipt: no token of a smaller member goes on
receipt_stops : (side : Side) (x v : ℕ) → v < x → (s : HirschbergState) (from : Side) (m : HirschbergMsg) → IsOwn x s → Unit {0} →
    weight_of (is_out v) (to_side side (hirschberg_sends s from m)) + weight_of (λ m. 0) (to_side side (hirschberg_sends s from m)) ≤
    by_side (λ m. 0) (other side) from m + by_side (λ m. 0) (other side) from m
receipt_stops side x v less s from m is _ = let same : s.me ≡ x = is.same in grind (arith, nat_tests)

-- and none is turned: what goes home of it came home from further on
receipt_returns : (side : Side) (x v : ℕ) → v < x → (s : HirschbergState) (from : Side) (m : HirschbergMsg) → IsOwn x s → Unit {0} →
    weight_of (is_back v) (to_side (other side) (hirschberg_sends s from m)) + weight_of (λ m. 0) (to_side (other side) (hirschberg_sends s from m)) ≤
    by_side (is_back v) side from m + by_side (λ m. 0) side from m
receipt_returns side x v less s from m is _ = let same : s.me ≡ x = is.same in grind (arith, nat_tests)

-- all receipts of a node with a greater identity than v
module _ (side : Side) (x v : ℕ) (less : v < x) (receipts : List (Side × HirschbergMsg)) where
  stops_out : weight (is_out v) (sent_after hirschberg_table x side receipts) ≡ 0
  stops_out =
      rw (weight-listed (is_out v) (to_side side (hirschberg_first_sends x)) (sent_from hirschberg_table side (hirschberg_first x) receipts))
      (omega (
        arith,
        first_out side x v less,
        weight-zero (taken_from (other side) receipts),
        sent_weight-less hirschberg_table (IsOwn x) (λ from m. Unit {0}) (λ s from m is _. own_next x s from m is)
            (is_out v) (λ m. 0) (λ m. 0) (λ m. 0) side side (other side) (other side)
            (receipt_stops side x v less) (hirschberg_first x) receipts (own_first x) (any_receipt receipts),
      ))

  returns_less : weight (is_back v) (sent_after hirschberg_table x (other side) receipts) ≤ weight (is_back v) (taken_from side receipts)
  returns_less =
      rw (weight-listed (is_back v) (to_side (other side) (hirschberg_first_sends x)) (sent_from hirschberg_table (other side) (hirschberg_first x) receipts))
      (omega (
        arith,
        first_back (other side) x v,
        weight-zero (taken_from side receipts),
        sent_weight-less hirschberg_table (IsOwn x) (λ from m. Unit {0}) (λ s from m is _. own_next x s from m is)
            (is_back v) (λ m. 0) (is_back v) (λ m. 0) (other side) (other side) side side
            (receipt_returns side x v less) (hirschberg_first x) receipts (own_first x) (any_receipt receipts),
      ))

some_injective : (x y : ℕ) → Some x ≡ Some y → x ≡ y
some_injective x y e = cc

-- ---- In a sound family

-- the member v at position p
module _ (ring : List ℕ) (is : IsRing ring) (family : ℕ → List (Side × HirschbergMsg)) (sound : IsSound hirschberg_table ring family) (p v : ℕ) (here : slice_get ring p ≡ Some v) where
  -- If a greater member is at most 2 ^ k steps away, v comes to no phase above k. Its tokens of
  -- phase k don't come home from there.
  pub stays_low : (side : Side) (k left x : ℕ) → suc left < length ring → slice_get ring (walk (length ring) p side (suc left)) ≡ Some x → v < x → suc left ≤ 2 ^ k →
      phase (state_after hirschberg_table v (family p)) ≤ k
  stays_low side k left x below there greater few =
      let at : ℕ = walk (length ring) p side (suc left) in
      let more : ℕ = length ring - 1 - suc left in
      let taken = back_near ring is p v here side family sound (suc left) more x (omega arith) there in
      let out = weight-less (is_near v more) (is_out v) (sent_after hirschberg_table x side (family at)) (near_is_out v more) in
      let stopped = stops_out side x v greater (family at) in
      let returned = returns_less side x v greater (family at) in
      let none : weight (is_back v) (sent_after hirschberg_table x (other side) (family at)) ≡ 0 = omega arith in
      let home = back_near_to ring is p v here side family sound (suc left) (omega arith)
      (λ y found. ap (λ w. weight (is_back v) (sent_after hirschberg_table w (other side) (family at))) (some_injective y x (sym found ∙ there)) ∙ none)
      0 left v (omega arith) here in
      let low = own_low v (family p) side left k (omega arith) in
      let back = phase_back v (family p) side in
      omega arith
