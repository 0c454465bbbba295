-- Members with different numbers, after one joined and after one left; and the positions of
-- members.
use Rattle.std.proofs.Common.{◌≡◌, ◌≤◌, ℕ, zero, suc, Bool, true, false, cond, ◌||◌, true≢false, List, [], ◌∷◌, ◌++◌, length, filter, get_or, Option, None, Some, ◌==◌, refl, sym, ap, ◌∙◌, arith}
use Rattle.std.specs.Prelude.{slice_get}
use Rattle.std.specs.List.{list_any, position_or_len}
use Rattle.std.proofs.lemmas.Option.{get_or_from_slice_get, slice_get-get_or, slice_get_within}
use Rattle.std.proofs.lemmas.List.Quantifiers.{position-Some}
use Rattle.std.proofs.lemmas.List.Sums.{fails_before_first}
use Rattle.std.proofs.lemmas.Bool.Decides.{nat_tests}
use Rattle.ring_id.specs.Identity.{number_of}
use Rattle.ring_roster.specs.Ring.{has_number, has_repeat, is_numbered, position_of}

-- neither part holds of what does not hold
or_false : (a b : Bool) → (a || b) ≡ false → (a ≡ false) × (b ≡ false)
or_false false b h = (refl, h)
or_false true b h = absurd (true≢false h)

-- a number that no member has stays so when a member with another number joins
pub list_any-push : (node member : ℕ) (others : List ℕ) → list_any (has_number node) others ≡ false → has_number node member ≡ false → list_any (has_number node) (others ++ member ∷ []) ≡ false
list_any-push node member [] h e = grind (arith, nat_tests)
list_any-push node member (x ∷ xs) h e = let rest = list_any-push node member xs in grind (arith, nat_tests, rest)

-- members that differ in their numbers still do when one with another number joins
pub has_repeat-push : (members : List ℕ) (node : ℕ) → has_repeat members ≡ false → list_any (has_number node) members ≡ false → has_repeat (members ++ node ∷ []) ≡ false
has_repeat-push [] node h e = refl
has_repeat-push (x ∷ xs) node h e =
    let rest = has_repeat-push xs node in
    let front = list_any-push x node xs in
    grind (arith, nat_tests, rest, front)

-- a number that no member has is not the number of any member that stays
pub list_any-filter : (node : ℕ) (stays : ℕ → Bool) (members : List ℕ) → list_any (has_number node) members ≡ false → list_any (has_number node) (filter stays members) ≡ false
list_any-filter node stays [] h = refl
list_any-filter node stays (x ∷ xs) h =
    let parts = or_false (has_number node x) (list_any (has_number node) xs) h in
    let rest = list_any-filter node stays xs parts.1 in
    elim (stays x) as (λ b. list_any (has_number node) (cond b (x ∷ filter stays xs) (filter stays xs)) ≡ false) [ true ↦ rw (parts.0, rest) refl | false ↦ rest ]

-- members that differ in their numbers still do when some are out
pub has_repeat-filter : (stays : ℕ → Bool) (members : List ℕ) → has_repeat members ≡ false → has_repeat (filter stays members) ≡ false
has_repeat-filter stays [] h = refl
has_repeat-filter stays (x ∷ xs) h =
    let parts = or_false (list_any (has_number x) xs) (has_repeat xs) h in
    let rest = has_repeat-filter stays xs parts.1 in
    elim (stays x) as (λ b. has_repeat (cond b (x ∷ filter stays xs) (filter stays xs)) ≡ false) [ true ↦ rw (list_any-filter x stays xs parts.0, rest) refl | false ↦ rest ]

-- and are no more
pub length-filter-le : (stays : ℕ → Bool) (members : List ℕ) → length (filter stays members) ≤ length members
length-filter-le stays [] = omega arith
length-filter-le stays (x ∷ xs) =
    let rest = length-filter-le stays xs in
    elim (stays x) as (λ b. length (cond b (x ∷ filter stays xs) (filter stays xs)) ≤ suc (length xs)) [ true ↦ omega arith | false ↦ omega arith ]

-- the number of an element of a list is found there
numbered_found : (members : List ℕ) (k member number : ℕ) → slice_get members k ≡ Some member → number_of member ≡ number → list_any (is_numbered number) members ≡ true
numbered_found [] k member number here same = cc
numbered_found (x ∷ xs) zero member number here same =
    let is : x ≡ member = cc in
    let found : is_numbered number x ≡ true = grind (arith, nat_tests) in
    rw found refl
numbered_found (x ∷ xs) (suc k) member number here same = rw (numbered_found xs k member number here same) (elim (is_numbered number x) as (λ b. (b || true) ≡ true) [ true ↦ refl | false ↦ refl ])

-- if members differ in their numbers, two places with one number are the same
pub same_numbered : (members : List ℕ) (i j m n : ℕ) → has_repeat members ≡ false → slice_get members i ≡ Some m → slice_get members j ≡ Some n → number_of m ≡ number_of n → i ≡ j
same_numbered [] i j m n differ here there same = cc
same_numbered (x ∷ xs) zero zero m n differ here there same = refl
same_numbered (x ∷ xs) zero (suc j) m n differ here there same =
    let is : m ≡ x = cc in
    let none = (or_false (list_any (has_number x) xs) (has_repeat xs) differ).0 in
    absurd (true≢false (sym (numbered_found xs j n (number_of x) there (sym same ∙ ap number_of is)) ∙ none))
same_numbered (x ∷ xs) (suc i) zero m n differ here there same =
    let is : n ≡ x = cc in
    let none = (or_false (list_any (has_number x) xs) (has_repeat xs) differ).0 in
    absurd (true≢false (sym (numbered_found xs i m (number_of x) here (same ∙ ap number_of is)) ∙ none))
same_numbered (x ∷ xs) (suc i) (suc j) m n differ here there same = ap suc (same_numbered xs i j m n (or_false (list_any (has_number x) xs) (has_repeat xs) differ).1 here there same)

-- a member has a position
pub position_of-member : (node : ℕ) (ring : List ℕ) (i : ℕ) → slice_get ring i ≡ Some node → position_of (number_of node) ring ≡ None → ⊥
position_of-member node ring i there none =
    let within = slice_get_within ring i node there in
    let here : get_or ring i node ≡ node = get_or_from_slice_get ring i node node there in
    let past : length ring ≤ position_or_len (is_numbered (number_of node)) ring = grind (arith, nat_tests) in
    let fails : is_numbered (number_of node) (get_or ring i node) ≡ false = fails_before_first (is_numbered (number_of node)) ring i node (omega arith) in
    grind (arith, nat_tests)

-- a member has no position but its own
pub position_is : (ring : List ℕ) (i m k : ℕ) → has_repeat ring ≡ false → slice_get ring i ≡ Some m → position_of (number_of m) ring ≡ Some k → k ≡ i
position_is ring i m k distinct here placed =
    let at = position-Some (is_numbered (number_of m)) ring k 0 placed in
    let test : number_of (get_or ring k 0) == number_of m ≡ true = at.1 in
    let same : number_of (get_or ring k 0) ≡ number_of m = grind (arith, nat_tests) in
    same_numbered ring k i (get_or ring k 0) m distinct (slice_get-get_or ring k 0 (at.0)) here same

position_of-found : (ring : List ℕ) (i m : ℕ) (found : Option ℕ) → has_repeat ring ≡ false → slice_get ring i ≡ Some m → position_of (number_of m) ring ≡ found → position_of (number_of m) ring ≡ Some i
position_of-found ring i m (Some k) distinct here e = e ∙ ap (λ (n : ℕ). Some n) (position_is ring i m k distinct here e)
position_of-found ring i m None distinct here e = absurd (position_of-member m ring i here e)

-- a member has the position at which it is found
pub position_of-at : (ring : List ℕ) (i m : ℕ) → has_repeat ring ≡ false → slice_get ring i ≡ Some m → position_of (number_of m) ring ≡ Some i
position_of-at ring i m distinct here = position_of-found ring i m (position_of (number_of m) ring) distinct here refl
