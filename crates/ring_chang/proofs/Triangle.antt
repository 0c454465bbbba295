-- An identity is a record on the link of each position that it passes, and it passes smaller ones
-- alone. So of two positions at most one passes the other's identity on, and each sends its own.
use Rattle.std.proofs.Common.{◌≡◌, ◌+◌, ◌*◌, ◌<◌, ◌≤◌, ℕ, suc, true, false, cond, List, [], ◌∷◌, ◌++◌, length, reverse, take, drop, Some, slice_get, get_or, nat_lt, mul-suc, suc-mul, refl, sym, ap, ◌∙◌, arith}
use Rattle.std.proofs.lemmas.Bool.Decides.{nat_tests}
use Rattle.std.proofs.lemmas.Grind.{reverse_onto}
use Rattle.std.proofs.lemmas.List.{length-append, take-append-drop}
use Rattle.std.proofs.lemmas.Option.{slice_get-get_or}
use Rattle.ring_id.specs.declared.side.Side.{Side}
use Rattle.ring_id.specs.declared.side.Side.TheVariants.{Left}
use Rattle.ring_roster.specs.Ring.{left_of, leftward}
use Rattle.ring_election.specs.Traces.{taken_from}
use Rattle.ring_election.specs.Families.{AllFit, FamilyFits, taken_in_all}
use Rattle.ring_election.proofs.Families.{length-taken, taken-none_from_right}
use Rattle.ring_election.proofs.Members.{first_part}
use Rattle.ring_election.proofs.Rings.{behind, leftward-here, neighbour-below}
use Rattle.ring_election.proofs.Sums.{sum_to, sum_to-first, sum_to-less, sum_to-round, taken-sum}
use Rattle.ring_chang.specs.Chang.{chang_fits, records, records_above}

-- ---- How many exceed a number

-- how many of these exceed m
abbrev above : ℕ → List ℕ → ℕ
above m [] = 0
above m (x ∷ xs) = cond (nat_lt m x) (suc (above m xs)) (above m xs)

-- a greater number is exceeded by no more
above-falls : (m x : ℕ) (xs : List ℕ) → m ≤ x → above x xs ≤ above m xs
above-falls m x [] h = omega arith
above-falls m x (y ∷ ys) h = let rest = above-falls m x ys h in grind (arith, nat_tests)

-- two lists are counted one after the other
above-append : (m : ℕ) (xs ys : List ℕ) → above m (xs ++ ys) ≡ above m xs + above m ys
above-append m [] ys = omega arith
above-append m (x ∷ xs) ys = let rest = above-append m xs ys in grind (arith, nat_tests)

-- a list is counted in either direction
above-reverse : (m : ℕ) (xs : List ℕ) → above m (reverse xs) ≡ above m xs
above-reverse m [] = refl
above-reverse m (x ∷ xs) =
    let rest = above-reverse m xs in
    rw (reverse_onto xs x [], above-append m (reverse xs) (x ∷ [])) (grind (arith, nat_tests))

-- as many exceed m when the ring is read to the left
above-leftward : (m : ℕ) (ring : List ℕ) (i : ℕ) → above m (leftward ring i) ≡ above m ring
above-leftward m ring i =
    let parts = above-append m (take (i + 1) ring) (drop (i + 1) ring) in
    let whole : above m (take (i + 1) ring ++ drop (i + 1) ring) ≡ above m ring = ap (above m) (take-append-drop (i + 1) ring) in
    rw (above-append m (reverse (take (i + 1) ring)) (reverse (drop (i + 1) ring)), above-reverse m (take (i + 1) ring), above-reverse m (drop (i + 1) ring))
    (sym parts ∙ whole)

-- the records above m are no more than those that exceed m
length-records_above : (m : ℕ) (xs : List ℕ) → length (records_above m xs) ≤ above m xs
length-records_above m [] = omega arith
length-records_above m (x ∷ xs) =
    let passed = length-records_above m xs in
    let taken = length-records_above x xs in
    elim (nat_lt m x) as (λ b. nat_lt m x ≡ b → length (cond b (x ∷ records_above x xs) (records_above m xs)) ≤ cond b (suc (above m xs)) (above m xs))
    [ true ↦ λ e. (let falls = above-falls m x xs (grind (arith, nat_tests)) in omega arith) | false ↦ λ e. passed ]
    refl

-- a number doesn't exceed itself
above-itself : (m : ℕ) (xs : List ℕ) → above m (m ∷ xs) ≡ above m xs
above-itself m xs = grind (arith, nat_tests)

-- a link has no more messages than one and those members that exceed its sender
records-above : (ring : List ℕ) (i me : ℕ) → slice_get ring i ≡ Some me → length (records (leftward ring i)) ≤ suc (above me ring)
records-above ring i me here =
    let read : leftward ring i ≡ me ∷ behind ring i = leftward-here ring i me here in
    let few = length-records_above me (behind ring i) in
    let count : above me (me ∷ behind ring i) ≡ above me ring = sym (ap (above me) read) ∙ above-leftward me ring i in
    let own = above-itself me (behind ring i) in
    let long : length (records (leftward ring i)) ≡ suc (length (records_above me (behind ring i))) = ap (λ (l : List ℕ). length (records l)) read in
    omega arith

-- ---- Sums over a list

-- the sum over a list of how many of another exceed the element, and one for each
abbrev passes : List ℕ → List ℕ → ℕ
passes [] ring = 0
passes (x ∷ xs) ring = suc (above x ring) + passes xs ring

-- it is the sum over the positions of the list
passes-sum : (xs ring : List ℕ) → sum_to (λ i. suc (above (get_or xs i 0) ring)) (length xs) ≡ passes xs ring
passes-sum [] ring = refl
passes-sum (x ∷ xs) ring =
    let first = sum_to-first (λ i. suc (above (get_or (x ∷ xs) i 0) ring)) (length xs) in
    let rest = passes-sum xs ring in
    omega arith

-- ---- Pairs

-- how many of these m exceeds
abbrev below : ℕ → List ℕ → ℕ
below m [] = 0
below m (x ∷ xs) = cond (nat_lt x m) (suc (below m xs)) (below m xs)

-- nothing is both greater and less
above-below : (m : ℕ) (xs : List ℕ) → above m xs + below m xs ≤ length xs
above-below m [] = omega arith
above-below m (x ∷ xs) = let rest = above-below m xs in grind (arith, nat_tests)

-- one more member is passed by those that it exceeds
passes-more : (xs : List ℕ) (x : ℕ) (ring : List ℕ) → passes xs (x ∷ ring) ≡ below x xs + passes xs ring
passes-more [] x ring = refl
passes-more (y ∷ ys) x ring = let rest = passes-more ys x ring in grind (arith, nat_tests)

-- each pair of positions counts once at most, and each position once
passes-triangle : (xs : List ℕ) → 2 * passes xs xs ≤ length xs * (length xs + 1)
passes-triangle [] = omega arith
passes-triangle (x ∷ xs) =
    let rest = passes-triangle xs in
    let more = passes-more xs x xs in
    let pair = above-below x xs in
    let own = above-itself x xs in
    let square = suc-mul (length xs) (suc (length xs) + 1) in
    let wide = mul-suc (length xs) (length xs + 1) in
    let size : suc (length xs) + 1 ≡ suc (length xs + 1) = omega arith in
    let product : length xs * (suc (length xs) + 1) ≡ length xs * (length xs + 1) + length xs = ap (λ n. length xs * n) size ∙ wide in
    omega arith

-- ---- The work

-- a position has taken no more messages than one and those members that exceed its left neighbour
taken-few : (ring : List ℕ) (i : ℕ) (receipts : List (Side × ℕ)) → i < length ring → AllFit chang_fits ring i receipts
    → length receipts ≤ suc (above (get_or ring (left_of (length ring) i) 0) ring)
taken-few ring i receipts inside all =
    let left = left_of (length ring) i in
    let there = slice_get-get_or ring left 0 (neighbour-below (length ring) i Left inside) in
    let part = first_part (taken_from Left receipts) (records (leftward ring left)) (λ k m taken. all.each Left k m taken) in
    let lengths = sym (length-append (taken_from Left receipts) part.0) ∙ ap length part.1 in
    let none = ap length (taken-none_from_right chang_fits ring i receipts all (λ j k m fits. fits)) in
    omega (arith, length-taken receipts, records-above ring left (get_or ring left 0) there)

-- in a family that fits, at most n(n + 1)/2 messages are taken
pub taken-triangle : (ring : List ℕ) (family : ℕ → List (Side × ℕ)) → FamilyFits chang_fits ring family → 2 * taken_in_all (length ring) family ≤ length ring * (length ring + 1)
taken-triangle ring family fits =
    let whole = taken-sum (length ring) family in
    let each = sum_to-less (λ i. length (family i)) (λ i. suc (above (get_or ring (left_of (length ring) i) 0) ring)) (length ring) (λ i inside. taken-few ring i (family i) inside (fits.at i inside)) in
    let round = sum_to-round (λ i. suc (above (get_or ring i 0) ring)) (length ring) Left in
    let list = passes-sum ring ring in
    let triangle = passes-triangle ring in
    omega arith
