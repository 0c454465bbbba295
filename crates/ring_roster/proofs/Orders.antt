-- The order of numbers finds each member of a ring at its position.
use Rattle.std.proofs.Common.{◌≡◌, ◌+◌, ◌<◌, ◌≤◌, ℕ, zero, suc, false, List, [], ◌∷◌, ◌++◌, length, get_or, None, Some, sym, ◌∙◌, ap, arith, eq-eqb, inl, inr}
use Rattle.std.specs.List.{list_any, position_or_len, All, Contains, HoldsAt}
use Rattle.std.specs.List.Sorted.{IsNonDecreasingBy, IsPartitionPoint, IsPermutation}
use Rattle.std.specs.Ordering.{nat_cmp, ordering_index}
use Rattle.std.specs.declared.cmp.Ordering.TheVariants.{Less, Equal, Greater}
use Rattle.std.proofs.lemmas.Bool.{cases_lt, ne_eqb, or_parts}
use Rattle.std.proofs.lemmas.Bool.Decides.{nat_tests}
use Rattle.std.proofs.lemmas.Cmp.{ranked}
use Rattle.std.proofs.lemmas.List.Elements.{All-get_or, All-push, Contains-append_left, Contains-push}
use Rattle.std.proofs.lemmas.List.Sorted.{All-permutation, Contains-permutation}
use Rattle.std.proofs.lemmas.List.Sums.{position_or_len_is}
use Rattle.ring_roster.specs.private.Order.{IsOrder, number_at}
use Rattle.ring_roster.specs.Ring.{has_number, has_repeat, is_numbered, position_of}

-- if no member has this number, the member at a place does not have it
none_at : (node : ℕ) (others : List ℕ) (k : ℕ) → list_any (has_number node) others ≡ false → k < length others → has_number node (get_or others k 0) ≡ false
none_at node [] k none below = absurd (omega arith)
none_at node (x ∷ xs) zero none below = (or_parts (has_number node x) (list_any (has_number node) xs) none).0
none_at node (x ∷ xs) (suc k) none below = none_at node xs k (or_parts (has_number node x) (list_any (has_number node) xs) none).1 (omega arith)

-- in a ring, two places have two numbers
differ : (ring : List ℕ) (j k : ℕ) → has_repeat ring ≡ false → j < k → k < length ring → number_at ring j ≡ number_at ring k → ⊥
differ [] j k distinct before below same = absurd (omega arith)
differ (x ∷ xs) j zero distinct before below same = absurd (omega arith)
differ (x ∷ xs) zero (suc k) distinct before below same =
    let other = none_at x xs k (or_parts (list_any (has_number x) xs) (has_repeat xs) distinct).0 (omega arith) in
    grind (arith, nat_tests)
differ (x ∷ xs) (suc j) (suc k) distinct before below same = differ xs j k (or_parts (list_any (has_number x) xs) (has_repeat xs) distinct).1 (omega arith) (omega arith) same

-- the place that has a number is the position of that number
pub position_found : (ring : List ℕ) (node k : ℕ) → has_repeat ring ≡ false → k < length ring → number_at ring k ≡ node → position_of node ring ≡ Some k
position_found ring node k distinct below here =
    let first : position_or_len (is_numbered node) ring ≡ k =
    position_or_len_is (is_numbered node) ring k 0 (omega arith)
    (λ j before. ne_eqb (number_at ring j) node (λ same. differ ring j k distinct before below (same ∙ sym here)))
    (λ _. eq-eqb (number_at ring k) node here) in
    grind (arith, nat_tests)

-- a number that no place has is without a position
pub position_absent : (ring : List ℕ) (node : ℕ) → ((k : ℕ) → k < length ring → number_at ring k ≡ node → ⊥) → position_of node ring ≡ None
position_absent ring node none =
    let past : position_or_len (is_numbered node) ring ≡ length ring =
    position_or_len_is (is_numbered node) ring (length ring) 0 (omega arith)
    (λ k below. ne_eqb (number_at ring k) node (none k below))
    (λ below. absurd (omega arith)) in
    grind (arith, nat_tests)

-- a position that the search finds in the order has the number
pub found_in_order : (ring order : List ℕ) (node at : ℕ) → IsOrder ring order → at < length order → HoldsAt (λ position. nat_cmp (number_at ring position) node ≡ Equal) order at
    → (get_or order at 0 < length ring) × (number_at ring (get_or order at 0) ≡ node)
found_in_order ring order node at is below equal =
    (All-get_or (λ position. position < length ring) order at 0 below is.sound, ranked (number_at ring (get_or order at 0)) node Equal (sym (equal 0)))

-- comparisons rise with the compared numbers
comparison_rises : (a b n : ℕ) → a ≤ b → ordering_index (nat_cmp a n) ≤ ordering_index (nat_cmp b n)
comparison_rises a b n up = grind (arith, nat_tests)

-- no number between the lesser and the greater ones is equal
neither : (a n k at : ℕ) → (k < at → a < n) → (at ≤ k → n < a) → a ≡ n → ⊥
neither a n k at low high same = grind (arith, low, high)

-- if the search finds nothing in the order, no position has the number
pub absent_in_order : (ring order : List ℕ) (node at : ℕ) → IsOrder ring order
    → (IsNonDecreasingBy (λ position. ordering_index (nat_cmp (number_at ring position) node)) order → IsPartitionPoint (λ position. nat_cmp (number_at ring position) node ≡ Less) (λ position. nat_cmp (number_at ring position) node ≡ Greater) order at)
    → (position : ℕ) → position < length ring → number_at ring position ≡ node → ⊥
absent_in_order ring order node at is parted position below here =
    let there = is.complete position below in
    let point = parted (λ i j d le within. comparison_rises (number_at ring (get_or order i d)) (number_at ring (get_or order j d)) node (is.rising i j d le within)) in
    let held : number_at ring (get_or order there.0 position) ≡ node = ap (number_at ring) there.2 ∙ here in
    neither (number_at ring (get_or order there.0 position)) node there.0 at
    (λ before. ranked (number_at ring (get_or order there.0 position)) node Less (sym (point.0 there.0 position (omega arith) before)))
    (λ behind. ranked (number_at ring (get_or order there.0 position)) node Greater (sym (point.1 there.0 position behind there.1)))
    held

-- Some first positions of a ring, each once.
pub record AreFirst (ring order : List ℕ) (count : ℕ) : Type 0 where
  pub sound : All (λ position. position < length ring) order
  pub complete : (position : ℕ) → position < count → Contains order position

-- one more
pub first_more : (ring order : List ℕ) (count : ℕ) → count < length ring → AreFirst ring order count → AreFirst ring (order ++ count ∷ []) (count + 1)
first_more ring order count within first = record {
  sound = All-push (λ position. position < length ring) order count first.sound within;
  complete = λ position below. elim (cases_lt position count) [
    | inl before ↦ Contains-append_left order (count ∷ []) position (first.complete position before)
    | inr behind ↦ let last : position ≡ count = omega arith in rw last (Contains-push order count)
  ];
}

-- all of them, sorted
pub order_of_all : (ring order sorted : List ℕ) (count : ℕ) → AreFirst ring order count → length ring ≤ count → IsPermutation order sorted → IsNonDecreasingBy (number_at ring) sorted → IsOrder ring sorted
order_of_all ring order sorted count first all moved rising = record {
  rising = rising;
  sound = All-permutation (λ position. position < length ring) order sorted moved first.sound;
  complete = λ position below. Contains-permutation order sorted position moved (first.complete position (omega arith));
}
