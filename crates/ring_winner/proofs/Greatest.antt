-- The greatest of a list, in one pass from its first element.
use Rattle.std.proofs.Common.{◌≡◌, ◌+◌, ◌≤◌, ℕ, List, [], ◌∷◌, length, drop, Some, max, slice_get, sym, ap, ◌∙◌, arith}
use Rattle.std.specs.Ordering.{nat_cmp, ord_max}
use Rattle.std.proofs.lemmas.List.{drop_all, drop_more}
use Rattle.std.proofs.lemmas.Option.{get_or_from_slice_get, slice_get_within}
use Rattle.std.proofs.lemmas.Bool.Decides.{nat_tests}
use Rattle.ring_roster.specs.Ring.{greatest_of}

-- the greater by the order of numbers is the maximum
ord_max-nat : (a b : ℕ) → ord_max nat_cmp a b ≡ max a b
ord_max-nat a b = grind (arith, nat_tests)

-- the greatest of three, from either end
max-assoc : (a b c : ℕ) → max (max a b) c ≡ max a (max b c)
max-assoc a b c = grind arith

-- before the pass the first member is the greatest so far
pub greatest_first : (ring : List ℕ) (first : ℕ) → Some first ≡ slice_get ring 0 → max first (greatest_of (drop 1 ring)) ≡ greatest_of ring
greatest_first [] first is = cc
greatest_first (member ∷ others) first is = let same : first ≡ member = cc in ap (λ x. max x (greatest_of others)) same

-- one member more
pub greatest_one_more : (ring : List ℕ) (k most member later all : ℕ) → slice_get ring k ≡ Some member → later ≡ ord_max nat_cmp most member
    → max most (greatest_of (drop k ring)) ≡ all → max later (greatest_of (drop (k + 1) ring)) ≡ all
greatest_one_more ring k most member later all here grows walked =
    let below = slice_get_within ring k member here in
    let read = get_or_from_slice_get ring k member member here in
    let cut = drop_more ring k member below in
    let rest = greatest_of (drop (k + 1) ring) in
    ap (λ x. max x rest) (grows ∙ ord_max-nat most member)
    ∙ (max-assoc most member rest ∙ (ap (λ x. max most (max x rest)) (sym read) ∙ (ap (λ l. max most (greatest_of l)) (sym cut) ∙ walked)))

-- after the last member none is left
pub greatest_of_all : (ring : List ℕ) (k most all : ℕ) → length ring ≤ k → max most (greatest_of (drop k ring)) ≡ all → most ≡ all
greatest_of_all ring k most all past walked =
    let none = drop_all k ring past in
    let end = ap (λ l. max most (greatest_of l)) none in
    grind arith
