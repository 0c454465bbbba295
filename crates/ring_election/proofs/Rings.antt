-- Lemmas about rings: neighbours, one position for each identity, the ring read to the left, its
-- greatest member, and what goes all round it. None of them names an algorithm.
use Rattle.std.proofs.Common.{◌≡◌, ◌≢◌, ◌⊎◌, inl, inr, ◌+◌, ◌-◌, ◌<◌, ◌≤◌, ◌||◌, ℕ, zero, suc, Bool, true, false, max, List, [], ◌∷◌, ◌++◌, length, take, drop, reverse, Some, slice_get, refl, sym, ap, ◌∙◌, subst, append_assoc, append-nil, arith}
use Rattle.std.specs.List.{list_any}
use Rattle.std.proofs.lemmas.Bool.{both_ways, cases_eq, cases_lt, or_parts}
use Rattle.std.proofs.lemmas.Bool.Decides.{nat_tests}
use Rattle.std.proofs.lemmas.Grind.{reverse_onto}
use Rattle.std.proofs.lemmas.List.{length-append, length-reverse, reverse-append, reverse-reverse, take-append-drop, take_all, drop_all}
use Rattle.std.proofs.lemmas.List.Folds.{list_any-append}
use Rattle.std.proofs.lemmas.Option.{slice_get_within}
use Rattle.ring_id.specs.declared.side.Side.{Side}
use Rattle.ring_id.specs.declared.side.Side.TheVariants.{Left, Right}
use Rattle.ring_id.specs.Sides.{other}
use Rattle.ring_roster.specs.Ring.{IsRing, greatest_of, has_number, has_repeat, left_of, leftward, neighbour, right_of}
use Rattle.ring_election.proofs.Members.{IsIn, in_append_cases, in_append_left, in_append_right, in_reverse}

-- ---- Neighbours

-- the neighbours of a position are positions
pub neighbour-below : (n i : ℕ) (side : Side) → i < n → neighbour n i side < n
neighbour-below n i Left h = grind (arith, nat_tests)
neighbour-below n i Right h = grind (arith, nat_tests)

-- left of the right neighbour is the position itself
pub left_of-right_of : (n i : ℕ) → i < n → left_of n (right_of n i) ≡ i
left_of-right_of n i h = grind (arith, nat_tests)

-- right of the left neighbour is the position itself
pub right_of-left_of : (n i : ℕ) → i < n → right_of n (left_of n i) ≡ i
right_of-left_of n i h = grind (arith, nat_tests)

-- a position is its neighbour's neighbour at the other side
pub neighbour-neighbour : (n i : ℕ) (side : Side) → i < n → neighbour n (neighbour n i side) (other side) ≡ i
neighbour-neighbour n i Left h = right_of-left_of n i h
neighbour-neighbour n i Right h = left_of-right_of n i h

-- ---- One position for each identity

-- an identity has its own number
has_number-self : (v : ℕ) → has_number v v ≡ true
has_number-self v = grind (arith, nat_tests)

-- two identities have one number in either order
has_number-swap : (v w : ℕ) → has_number v w ≡ has_number w v
has_number-swap v w = grind (arith, nat_tests)

-- the number of an element of a list is found there
number_found : (xs : List ℕ) (k v : ℕ) → slice_get xs k ≡ Some v → list_any (has_number v) xs ≡ true
number_found [] k v h = cc
number_found (x ∷ xs) zero v h =
    let e : x ≡ v = cc in
    rw (e, has_number-self v) refl
number_found (x ∷ xs) (suc k) v h = rw (number_found xs k v h) (elim (has_number v x) as (λ b. (b || true) ≡ true) [ true ↦ refl | false ↦ refl ])

-- in a list without repeats, two places with the same identity are the same
same_place : (xs : List ℕ) (i j v : ℕ) → has_repeat xs ≡ false → slice_get xs i ≡ Some v → slice_get xs j ≡ Some v → i ≡ j
same_place [] i j v d h k = cc
same_place (x ∷ xs) zero zero v d h k = refl
same_place (x ∷ xs) zero (suc j) v d h k =
    let e : x ≡ v = cc in
    let none = (or_parts (list_any (has_number x) xs) (has_repeat xs) d).0 in
    absurd (both_ways (list_any (has_number x) xs) none (rw e (number_found xs j v k)))
same_place (x ∷ xs) (suc i) zero v d h k =
    let e : x ≡ v = cc in
    let none = (or_parts (list_any (has_number x) xs) (has_repeat xs) d).0 in
    absurd (both_ways (list_any (has_number x) xs) none (rw e (number_found xs i v h)))
same_place (x ∷ xs) (suc i) (suc j) v d h k = ap suc (same_place xs i j v (or_parts (list_any (has_number x) xs) (has_repeat xs) d).1 h k)

-- two positions of a ring with the same identity are the same
pub same_position : (ring : List ℕ) (i j v : ℕ) → IsRing ring → slice_get ring i ≡ Some v → slice_get ring j ≡ Some v → i ≡ j
same_position ring i j v is h k = same_place ring i j v is.distinct h k

-- ---- The ring read to the left

-- the identities of all the others, read from the left neighbour of position i on to the left
abbrev pub behind : List ℕ → ℕ → List ℕ
behind ring i = reverse (take i ring) ++ reverse (drop (i + 1) ring)

-- one more element of a list
take-more : (xs : List ℕ) (i v : ℕ) → slice_get xs i ≡ Some v → take (i + 1) xs ≡ take i xs ++ v ∷ []
take-more [] i v h = cc
take-more (x ∷ xs) zero v h = ap (λ z. z ∷ []) cc
take-more (x ∷ xs) (suc i) v h =
    let e : suc i + 1 ≡ suc (i + 1) = omega arith in
    rw e (ap (λ z. x ∷ z) (take-more xs i v h))

-- the rest of a list begins with the element at its place
drop-first : (xs : List ℕ) (i v : ℕ) → slice_get xs i ≡ Some v → drop i xs ≡ v ∷ drop (i + 1) xs
drop-first [] i v h = cc
drop-first (x ∷ xs) zero v h = ap (λ z. z ∷ xs) cc
drop-first (x ∷ xs) (suc i) v h =
    let e : suc i + 1 ≡ suc (i + 1) = omega arith in
    rw e (drop-first xs i v h)

-- what is read from a position on begins with its own identity
pub leftward-here : (ring : List ℕ) (i me : ℕ) → slice_get ring i ≡ Some me → leftward ring i ≡ me ∷ behind ring i
leftward-here ring i me h = rw (take-more ring i me h, reverse-append (take i ring) (me ∷ [])) refl

-- the ring read to the left from just below k
leftward-below : (ring : List ℕ) (i k : ℕ) → i + 1 ≡ k → leftward ring i ≡ reverse (take k ring) ++ reverse (drop k ring)
leftward-below ring i k e = rw e refl

-- what is read from the left neighbour of a position on ends with its own identity
pub leftward-left_of : (ring : List ℕ) (i me : ℕ) → slice_get ring i ≡ Some me → leftward ring (left_of (length ring) i) ≡ behind ring i ++ me ∷ []
leftward-left_of [] i me h = cc
leftward-left_of (x ∷ xs) zero me h =
    let first : x ≡ me = cc in
    let last : left_of (suc (length xs)) 0 + 1 ≡ suc (length xs) = grind (arith, nat_tests) in
    leftward-below (x ∷ xs) _ (suc (length xs)) last
    ∙ rw (take_all (length xs) xs (omega arith), drop_all (length xs) xs (omega arith), append-nil, reverse_onto xs x [], first) refl
leftward-left_of (x ∷ xs) (suc i) me h =
    let before : left_of (suc (length xs)) (suc i) + 1 ≡ suc i = grind (arith, nat_tests) in
    leftward-below (x ∷ xs) _ (suc i) before
    ∙ rw (drop-first (x ∷ xs) (suc i) me h, reverse_onto (drop (suc i + 1) (x ∷ xs)) me [], append_assoc) refl

-- read to the left there are as many identities as the ring has members
pub length-leftward : (ring : List ℕ) (i : ℕ) → length (leftward ring i) ≡ length ring
length-leftward ring i =
    rw (length-append, length-reverse (take (i + 1) ring), length-reverse (drop (i + 1) ring), ← length-append (take (i + 1) ring) (drop (i + 1) ring), take-append-drop)

-- read to the left from position i, the ring is the positions after i and then those up to i, all backwards
pub leftward-is_reverse : (ring : List ℕ) (i : ℕ) → leftward ring i ≡ reverse (drop (i + 1) ring ++ take (i + 1) ring)
leftward-is_reverse ring i = sym (reverse-append (drop (i + 1) ring) (take (i + 1) ring))

-- an identity met on the way round is a member
pub member_from_leftward : (ring : List ℕ) (i v : ℕ) → IsIn (leftward ring i) v → IsIn ring v
member_from_leftward ring i v h =
    let back = in_reverse (leftward ring i) v h in
    let whole : reverse (leftward ring i) ≡ drop (i + 1) ring ++ take (i + 1) ring = ap reverse (leftward-is_reverse ring i) ∙ reverse-reverse (drop (i + 1) ring ++ take (i + 1) ring) in
    elim (in_append_cases (drop (i + 1) ring) (take (i + 1) ring) v (rw whole at back)) [
      | inl late ↦ subst (λ (l : List ℕ). IsIn l v) (take-append-drop (i + 1) ring) (in_append_right (take (i + 1) ring) (drop (i + 1) ring) v late)
      | inr early ↦ subst (λ (l : List ℕ). IsIn l v) (take-append-drop (i + 1) ring) (in_append_left (take (i + 1) ring) (drop (i + 1) ring) v early)
    ]

-- every member is met on the way round
pub leftward_from_member : (ring : List ℕ) (i v : ℕ) → IsIn ring v → IsIn (leftward ring i) v
leftward_from_member ring i v h =
    elim (in_append_cases (take (i + 1) ring) (drop (i + 1) ring) v (subst (λ (l : List ℕ). IsIn l v) (sym (take-append-drop (i + 1) ring)) h)) [
      | inl early ↦ in_append_left (reverse (take (i + 1) ring)) (reverse (drop (i + 1) ring)) v (in_reverse (take (i + 1) ring) v early)
      | inr late ↦ in_append_right (reverse (take (i + 1) ring)) (reverse (drop (i + 1) ring)) v (in_reverse (drop (i + 1) ring) v late)
    ]

-- ---- The ring read to the left is a ring

-- three laws of `||` for the tests of repeats below
either_last : (a b : Bool) → (a || (b || false)) ≡ (b || a)
either_last a b = grind arith

either_swap : (a b : Bool) → (a || b) ≡ (b || a)
either_swap a b = grind arith

regrouped : (a b c e r : Bool) → ((a || (e || b)) || (c || r)) ≡ ((e || c) || ((a || b) || r))
regrouped a b c e r = grind arith

-- some element passes a test in two lists in either order
any-swap : (p : ℕ → Bool) (xs ys : List ℕ) → list_any p (xs ++ ys) ≡ list_any p (ys ++ xs)
any-swap p xs ys = rw (list_any-append p xs ys, list_any-append p ys xs) (either_swap (list_any p xs) (list_any p ys))

-- some element passes a test in a list read in either direction
any-reverse : (p : ℕ → Bool) (xs : List ℕ) → list_any p (reverse xs) ≡ list_any p xs
any-reverse p [] = refl
any-reverse p (x ∷ xs) = rw (reverse_onto xs x [], list_any-append p (reverse xs) (x ∷ []), any-reverse p xs) (either_last (list_any p xs) (p x))

-- a test for repeats may take any element first
repeat-middle : (xs : List ℕ) (y : ℕ) (ys : List ℕ) → has_repeat (xs ++ y ∷ ys) ≡ (list_any (has_number y) (xs ++ ys) || has_repeat (xs ++ ys))
repeat-middle [] y ys = refl
repeat-middle (x ∷ xs) y ys =
    rw (repeat-middle xs y ys, list_any-append (has_number x) xs (y ∷ ys), list_any-append (has_number x) xs ys, has_number-swap y x)
    (regrouped (list_any (has_number x) xs) (list_any (has_number x) ys) (list_any (has_number y) (xs ++ ys)) (has_number x y) (has_repeat (xs ++ ys)))

-- a repeat is there in two lists in either order
repeat-swap : (xs ys : List ℕ) → has_repeat (xs ++ ys) ≡ has_repeat (ys ++ xs)
repeat-swap [] ys = ap has_repeat (sym (append-nil ys))
repeat-swap (x ∷ xs) ys = rw (repeat-middle ys x xs, any-swap (has_number x) xs ys, repeat-swap xs ys) refl

-- a repeat is there in a list read in either direction
repeat-reverse : (xs : List ℕ) → has_repeat (reverse xs) ≡ has_repeat xs
repeat-reverse [] = refl
repeat-reverse (x ∷ xs) = rw (reverse_onto xs x [], repeat-middle (reverse xs) x [], append-nil, any-reverse, repeat-reverse xs) refl

-- the ring read to the left from any of its positions is a ring
pub leftward-is_ring : (ring : List ℕ) (i : ℕ) → IsRing ring → IsRing (leftward ring i)
leftward-is_ring ring i is = record {
  some = rw (length-leftward ring i) is.some;
  short = rw (length-leftward ring i) is.short;
  distinct =
      ap has_repeat (leftward-is_reverse ring i)
      ∙ (repeat-reverse (drop (i + 1) ring ++ take (i + 1) ring)
      ∙ (repeat-swap (drop (i + 1) ring) (take (i + 1) ring)
      ∙ (ap has_repeat (take-append-drop (i + 1) ring) ∙ is.distinct)));
}

-- the others after a position have other identities
pub differs_behind : (ring : List ℕ) (i me v : ℕ) → IsRing ring → slice_get ring i ≡ Some me → IsIn (behind ring i) v → v ≢ me
differs_behind ring i me v is here h same =
    let whole = leftward-here ring i me here in
    let first : slice_get (leftward ring i) 0 ≡ Some me = ap (λ (l : List ℕ). slice_get l 0) whole in
    let again : slice_get (leftward ring i) (suc h.place) ≡ Some me = ap (λ (l : List ℕ). slice_get l (suc h.place)) whole ∙ (h.there ∙ ap (λ (z : ℕ). Some z) same) in
    let zero_is_suc : 0 ≡ suc h.place = same_position (leftward ring i) 0 (suc h.place) me (leftward-is_ring ring i is) first again in
    cc

-- ---- The greatest

-- the greater of two numbers is one of them
max-cases : (a b : ℕ) → (max a b ≡ a) ⊎ (max a b ≡ b)
max-cases a b = elim (cases_lt a b) [ inl l ↦ inr (omega arith) | inr l ↦ inl (omega arith) ]

-- the greatest of some identities is one of them
pub greatest-is_in : (xs : List ℕ) → 0 < length xs → IsIn xs (greatest_of xs)
greatest-is_in [] h = absurd (omega arith)
greatest-is_in (x ∷ []) h = record { place = 0; there = ap (λ (z : ℕ). Some z) (omega arith) }
greatest-is_in (x ∷ (y ∷ ys)) h =
    let rest = greatest-is_in (y ∷ ys) (omega arith) in
    elim (max-cases x (greatest_of (y ∷ ys))) [
      | inl e ↦ record { place = 0; there = ap (λ (z : ℕ). Some z) (sym e) }
      | inr e ↦ record { place = suc rest.place; there = rest.there ∙ ap (λ (z : ℕ). Some z) (sym e) }
    ]

-- none of some identities is greater than the greatest of them
pub greatest-at_least : (xs : List ℕ) (v : ℕ) → IsIn xs v → v ≤ greatest_of xs
greatest-at_least xs v h = at xs h.place h.there
  where
    at : (ys : List ℕ) (k : ℕ) → slice_get ys k ≡ Some v → v ≤ greatest_of ys
    at [] k e = cc
    at (y ∷ ys) zero e = let same : y ≡ v = cc in omega arith
    at (y ∷ ys) (suc k) e = let rest = at ys k e in omega arith

-- one of some identities that none of them exceeds is the greatest of them
pub greatest-unique : (xs : List ℕ) (v : ℕ) → IsIn xs v → ((w : ℕ) → IsIn xs w → w ≤ v) → v ≡ greatest_of xs
greatest-unique xs v h above =
    let some = slice_get_within xs h.place v h.there in
    let low = greatest-at_least xs v h in
    let high = above (greatest_of xs) (greatest-is_in xs (omega arith)) in
    omega arith

-- read to the left from any position, the ring has the same greatest
pub greatest-leftward : (ring : List ℕ) (i : ℕ) → IsRing ring → greatest_of (leftward ring i) ≡ greatest_of ring
greatest-leftward ring i is =
    greatest-unique ring (greatest_of (leftward ring i))
    (member_from_leftward ring i _ (greatest-is_in (leftward ring i) (leftward-is_ring ring i is).some))
    (λ w there. greatest-at_least (leftward ring i) w (leftward_from_member ring i w there))

-- ---- All the way round

-- what holds at a position and passes to each next one holds d positions higher
climbs : (P : ℕ → Type 0) (low d : ℕ) → P low → ((j : ℕ) → low ≤ j → j < low + d → P j → P (j + 1)) → P (low + d)
climbs P low zero start step = subst P (omega arith) start
climbs P low (suc d) start step =
    let before = climbs P low d start (λ j above below. step j above (omega arith)) in
    subst P (omega arith) (step (low + d) (omega arith) (omega arith) before)

-- what holds at a position and passes to each next one holds at every higher one
climbs_to : (P : ℕ → Type 0) (low j : ℕ) → low ≤ j → P low → ((k : ℕ) → low ≤ k → k < j → P k → P (k + 1)) → P j
climbs_to P low j above start step =
    let sum : low + (j - low) ≡ j = omega arith in
    subst P sum (climbs P low (j - low) start (λ k l h. step k l (omega arith)))

-- what holds at the right neighbour of position g, and passes from each other position to its right
-- neighbour, holds at every position
pub around : (n g : ℕ) (P : ℕ → Type 0) → g < n → P (right_of n g) → ((j : ℕ) → j < n → j ≢ g → P j → P (right_of n j)) → (j : ℕ) → j < n → P j
around n g P inside start pass j below = elim (cases_lt g j) [ inl l ↦ late j l below | inr l ↦ climbs_to P 0 j (omega arith) first (λ k at under h. next k (omega arith) (λ e. absurd (omega arith)) h) ]
  where
    next : (k : ℕ) → k + 1 < n → k ≢ g → P k → P (k + 1)
    next k under other here = subst P (grind (arith, nat_tests)) (pass k (omega arith) other here)

    late : (k : ℕ) → g < k → k < n → P k
    late k over under = climbs_to P (g + 1) k (omega arith) (subst P (grind (arith, nat_tests)) start) (λ l at low h. next l (omega arith) (λ e. absurd (omega arith)) h)

    first : P 0
    first = elim (cases_eq (g + 1) n) [
      | inl e ↦ subst P (grind (arith, nat_tests)) start
      | inr ne ↦ subst P (grind (arith, nat_tests)) (pass (n - 1) (omega arith) (λ e. absurd (ne (omega arith))) (late (n - 1) (omega arith) (omega arith)))
    ]
