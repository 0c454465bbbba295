-- The tokens of one identity that a position passes on, weighed against those that it took.
use Rattle.std.specs.Prelude.{◌≡◌, ◌≢◌, ◌+◌, ◌<◌, ◌≤◌, ◌==◌, ℕ, suc, if◌then◌else◌, nat_lt, nat_le, List, Option, Some, None, refl}
use Rattle.std.proofs.Common.{arith, ne_of_lt}
use Rattle.std.proofs.lemmas.Bool.Decides.{nat_tests}
use Rattle.ring_id.specs.declared.side.Side.{Side}
use Rattle.ring_id.specs.Sides.{other}
use Rattle.ring_election.specs.Tables.{to_side}
use Rattle.ring_election.specs.Traces.{sent_after, sent_from, taken_from}
use Rattle.ring_hirschberg.specs.declared.hirschberg.HirschbergMsg.{HirschbergMsg}
use Rattle.ring_hirschberg.specs.declared.hirschberg.HirschbergMsg.TheVariants.{Out, Back}
use Rattle.ring_hirschberg.specs.declared.hirschberg.HirschbergState.{HirschbergState}
use Rattle.ring_hirschberg.specs.Hirschberg.{hirschberg_first, hirschberg_first_sends, hirschberg_sends, hirschberg_table}
use Rattle.ring_hirschberg.specs.laws.States.{IsOwn, own_first, own_next}
use Rattle.ring_hirschberg.specs.laws.Receipts.{any_receipt}
use Rattle.ring_hirschberg.specs.laws.Weights.{by_side, sent_weight-less, sent_weight-same, weight, weight-listed, weight-zero, weight_of}

-- a token of v on its way out weighs 1, every other message 0
abbrev pub is_out : ℕ → HirschbergMsg → ℕ
is_out v (Out w hops) = if w == v then 1 else 0
is_out v (Back w) = 0

-- a token of v on its way out with 1 to `most` hops
abbrev pub is_near : ℕ → ℕ → HirschbergMsg → ℕ
is_near v most (Out w hops) = if w == v then if nat_lt 0 hops then if nat_le hops most then 1 else 0 else 0 else 0
is_near v most (Back w) = 0

-- a token of v on its way home
abbrev pub is_back : ℕ → HirschbergMsg → ℕ
is_back v (Out w hops) = 0
is_back v (Back w) = if w == v then 1 else 0

-- near tokens are tokens on their way out
pub near_is_out : (v most : ℕ) (m : HirschbergMsg) → is_near v most m ≤ is_out v m
near_is_out v most m = grind (arith, nat_tests)

-- a node's first sends are no tokens of another identity
first_near : (side : Side) (x v most : ℕ) → x ≢ v → weight_of (is_near v most) (to_side side (hirschberg_first_sends x)) ≡ 0
first_near side x v most not = grind (arith, nat_tests)

first_back : (side : Side) (x v : ℕ) → weight_of (is_back v) (to_side side (hirschberg_first_sends x)) ≡ 0
first_back side x v = grind (arith, nat_tests)

first_out : (side : Side) (x v : ℕ) → x ≢ v → weight_of (is_out v) (to_side side (hirschberg_first_sends x)) ≡ 0
first_out side x v not = grind (arith, nat_tests)

-- One receipt at another position. Tokens that go on that way, and those that come back, were on
-- their way home from there. Or they were on their way out with one hop more.
receipt_less : (side : Side) (x v most : ℕ) → x ≢ v → (s : HirschbergState) (from : Side) (m : HirschbergMsg) → IsOwn x s → Unit {0} →
    weight_of (is_near v most) (to_side side (hirschberg_sends s from m)) + weight_of (is_back v) (to_side (other side) (hirschberg_sends s from m)) ≤
    by_side (is_back v) side from m + by_side (is_near v (suc most)) (other side) from m
receipt_less side x v most not s from m is _ = let same : s.me ≡ x = is.same in grind (arith, nat_tests)

-- if the identity here is smaller, none is lost
out_same : (s : HirschbergState) (side from : Side) (x v w hops most : ℕ) → s.me ≡ x → x < v →
    weight_of (is_near v most) (to_side side (hirschberg_sends s from (Out w hops))) + weight_of (is_back v) (to_side (other side) (hirschberg_sends s from (Out w hops))) ≡
    by_side (is_back v) side from (Out w hops) + by_side (is_near v (suc most)) (other side) from (Out w hops)
out_same s side from x v w hops most is less = grind (arith, nat_tests)

back_same : (s : HirschbergState) (side from : Side) (x v w most : ℕ) → s.me ≡ x → x < v →
    weight_of (is_near v most) (to_side side (hirschberg_sends s from (Back w))) + weight_of (is_back v) (to_side (other side) (hirschberg_sends s from (Back w))) ≡
    by_side (is_back v) side from (Back w) + by_side (is_near v (suc most)) (other side) from (Back w)
back_same s side from x v w most is less = grind (arith, nat_tests)

receipt_same : (side : Side) (x v most : ℕ) → x < v → (s : HirschbergState) (from : Side) (m : HirschbergMsg) → IsOwn x s → Unit {0} →
    weight_of (is_near v most) (to_side side (hirschberg_sends s from m)) + weight_of (is_back v) (to_side (other side) (hirschberg_sends s from m)) ≡
    by_side (is_back v) side from m + by_side (is_near v (suc most)) (other side) from m
receipt_same side x v most less s from (Out w hops) is _ = out_same s side from x v w hops most is.same less
receipt_same side x v most less s from (Back w) is _ = back_same s side from x v w most is.same less

-- if no message weighs anything
none_of : (m : Option HirschbergMsg) → weight_of (λ m. 0) m ≡ 0
none_of None = refl
none_of (Some m) = refl

-- tokens on their way out come from the side opposite to their way
receipt_out : (side : Side) (x v : ℕ) → x ≢ v → (s : HirschbergState) (from : Side) (m : HirschbergMsg) → IsOwn x s → Unit {0} →
    weight_of (is_out v) (to_side side (hirschberg_sends s from m)) + weight_of (λ m. 0) (to_side side (hirschberg_sends s from m)) ≤
    by_side (is_out v) (other side) from m + by_side (λ m. 0) (other side) from m
receipt_out side x v not s from m is _ = let same : s.me ≡ x = is.same in grind (arith, nat_tests)

-- all receipts of a node with another identity than v
module _ (side : Side) (x v : ℕ) (receipts : List (Side × HirschbergMsg)) where
  -- Tokens that go on to one side with few hops, and those that go back. They came home from there,
  -- or from the other side with one hop more.
  pub passes_less : (most : ℕ) → x ≢ v →
      weight (is_near v most) (sent_after hirschberg_table x side receipts) + weight (is_back v) (sent_after hirschberg_table x (other side) receipts) ≤
      weight (is_back v) (taken_from side receipts) + weight (is_near v (suc most)) (taken_from (other side) receipts)
  passes_less most not =
      rw (
        weight-listed (is_near v most) (to_side side (hirschberg_first_sends x)) (sent_from hirschberg_table side (hirschberg_first x) receipts),
        weight-listed (is_back v) (to_side (other side) (hirschberg_first_sends x)) (sent_from hirschberg_table (other side) (hirschberg_first x) receipts),
      )
      (omega (
        arith,
        first_near side x v most not,
        first_back (other side) x v,
        sent_weight-less hirschberg_table (IsOwn x) (λ from m. Unit {0}) (λ s from m is _. own_next x s from m is)
            (is_near v most) (is_back v) (is_back v) (is_near v (suc most)) side (other side) side (other side)
            (receipt_less side x v most not) (hirschberg_first x) receipts (own_first x) (any_receipt receipts),
      ))

  -- if v is greater, exactly these
  pub passes_same : (most : ℕ) → x < v →
      weight (is_near v most) (sent_after hirschberg_table x side receipts) + weight (is_back v) (sent_after hirschberg_table x (other side) receipts) ≡
      weight (is_back v) (taken_from side receipts) + weight (is_near v (suc most)) (taken_from (other side) receipts)
  passes_same most less =
      rw (
        weight-listed (is_near v most) (to_side side (hirschberg_first_sends x)) (sent_from hirschberg_table side (hirschberg_first x) receipts),
        weight-listed (is_back v) (to_side (other side) (hirschberg_first_sends x)) (sent_from hirschberg_table (other side) (hirschberg_first x) receipts),
      )
      (omega (
        arith,
        first_near side x v most (ne_of_lt less),
        first_back (other side) x v,
        sent_weight-same hirschberg_table (IsOwn x) (λ from m. Unit {0}) (λ s from m is _. own_next x s from m is)
            (is_near v most) (is_back v) (is_back v) (is_near v (suc most)) side (other side) side (other side)
            (receipt_same side x v most less) (hirschberg_first x) receipts (own_first x) (any_receipt receipts),
      ))

  -- the tokens that go out to one side came out from the other
  pub passes_out : x ≢ v → weight (is_out v) (sent_after hirschberg_table x side receipts) ≤ weight (is_out v) (taken_from (other side) receipts)
  passes_out not =
      rw (weight-listed (is_out v) (to_side side (hirschberg_first_sends x)) (sent_from hirschberg_table side (hirschberg_first x) receipts))
      (omega (
        arith,
        first_out side x v not,
        weight-zero (taken_from (other side) receipts),
        sent_weight-less hirschberg_table (IsOwn x) (λ from m. Unit {0}) (λ s from m is _. own_next x s from m is)
            (is_out v) (λ m. 0) (is_out v) (λ m. 0) side side (other side) (other side)
            (receipt_out side x v not) (hirschberg_first x) receipts (own_first x) (any_receipt receipts),
      ))
