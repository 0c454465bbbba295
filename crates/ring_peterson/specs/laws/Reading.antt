-- The walks are the rounds: if positions rise, the two values met last before a position are the
-- two to its left on the ring.
use Rattle.std.specs.Prelude.{◌≡◌, ◌+◌, ◌≤◌, ℕ, zero, suc, true, false, if◌then◌else◌, nat_lt, List, [], ◌∷◌, ◌++◌, length, reverse, Some}
use Rattle.std.proofs.Common.{refl, arith, sym, ap, ap₂, ◌∙◌, append_assoc}
use Rattle.std.proofs.lemmas.List.{append-nil}
use Rattle.std.proofs.lemmas.Bool.Decides.{nat_tests}
use Rattle.std.proofs.lemmas.Grind.{reverse_onto}
use Rattle.ring_peterson.specs.Rounds.{Round, Two, first_two, last_round, message_of, next_round, staying, two_left, two_of, values_below, values_from}
use Rattle.ring_peterson.specs.laws.Walk.{kept, two_after, two_before, two_below, two_ends, walk_last, walk_message, walk_next}
use Rattle.ring_peterson.specs.laws.Positions.{Rises, Rises-kept}
use Rattle.ring_peterson.specs.laws.Values.{values}

-- the two values met last, if these follow two others
abbrev two_pushed : Two → List ℕ → Two
two_pushed two [] = two
two_pushed two (v ∷ vs) = two_pushed (two_of two.last v) vs

-- a walk over all entries pushes their values
two_after-pushed : (two : Two) (round : Round) → two_after two round ≡ two_pushed two (values round)
two_after-pushed two [] = refl
two_after-pushed two ((q, v) ∷ round) = two_after-pushed (two_of two.last v) round

-- if all positions are at p or above, no value is below p
values_below_low : (p low high : ℕ) (round : Round) → Rises low high round → p ≤ low → values_below p round ≡ []
values_below_low p low high [] h le = refl
values_below_low p low high ((q, v) ∷ round) h le = let from = h.0.from in let rest = values_below_low p (q + 1) high round h.1 (omega arith) in grind (arith, nat_tests)

-- if all positions are at p or above, all values are from p on
values_from_low : (p low high : ℕ) (round : Round) → Rises low high round → p ≤ low → values_from p round ≡ values round
values_from_low p low high [] h le = refl
values_from_low p low high ((q, v) ∷ round) h le = let from = h.0.from in let rest = values_from_low p (q + 1) high round h.1 (omega arith) in grind (arith, nat_tests)

-- a walk over the entries below p pushes the values below p
two_below-pushed : (two : Two) (p low high : ℕ) (round : Round) → Rises low high round → two_below two round p ≡ two_pushed two (values_below p round)
two_below-pushed two p low high [] h = refl
two_below-pushed two p low high ((q, v) ∷ round) h =
    elim (nat_lt q p) as (λ b. nat_lt q p ≡ b → (if b then two_below (two_of two.last v) round p else two) ≡ two_pushed two (if b then v ∷ values_below p round else values_below p round)) [
      | true ↦ λ below. two_below-pushed (two_of two.last v) p (q + 1) high round h.1
      | false ↦ λ from. ap (two_pushed two) (sym (values_below_low p (q + 1) high round h.1 (grind (arith, nat_tests))))
    ] refl

-- the values of a round are those below p and those from p on
values-parts : (p low high : ℕ) (round : Round) → Rises low high round → values round ≡ values_below p round ++ values_from p round
values-parts p low high [] h = refl
values-parts p low high ((q, v) ∷ round) h =
    elim (nat_lt q p) as (λ b. nat_lt q p ≡ b → v ∷ values round ≡ (if b then v ∷ values_below p round else values_below p round) ++ (if b then values_from p round else v ∷ values_from p round)) [
      | true ↦ λ below. ap (λ (l : List ℕ). v ∷ l) (values-parts p (q + 1) high round h.1)
      | false ↦ λ from.
          let none = values_below_low p (q + 1) high round h.1 (grind (arith, nat_tests)) in
          let all = values_from_low p (q + 1) high round h.1 (grind (arith, nat_tests)) in
          rw (none, all) refl
    ] refl

-- two lists are pushed one after the other
two_pushed-append : (two : Two) (xs ys : List ℕ) → two_pushed two (xs ++ ys) ≡ two_pushed (two_pushed two xs) ys
two_pushed-append two [] ys = refl
two_pushed-append two (x ∷ xs) ys = two_pushed-append (two_of two.last x) xs ys

-- of the two values before a list of one or more, only the last matters
two_pushed_same : (one two : Two) (xs : List ℕ) (y : ℕ) (ys : List ℕ) → one.last ≡ two.last → two_pushed one (xs ++ (y ∷ ys)) ≡ two_pushed two (xs ++ (y ∷ ys))
two_pushed_same one two [] y ys same = ap (λ (l : ℕ). two_pushed (two_of l y) ys) same
two_pushed_same one two (x ∷ xs) y ys same = ap (λ (l : ℕ). two_pushed (two_of l x) (xs ++ (y ∷ ys))) same

-- the first value met is the last of the two
first_two_last : (y : ℕ) (ys : List ℕ) → (first_two (y ∷ ys)).last ≡ y
first_two_last y [] = refl
first_two_last y (z ∷ ys) = refl

-- one more value met comes first
first_two_cons : (x : ℕ) (ys : List ℕ) → (ys ≡ [] → ⊥) → first_two (x ∷ ys) ≡ two_of (first_two ys).last x
first_two_cons x [] some = absurd (some refl)
first_two_cons x (y ∷ ys) some = ap (λ (l : ℕ). two_of l x) (sym (first_two_last y ys))

-- the first two values of a list read backwards are the last two pushed
first_two-reverse : (xs ys : List ℕ) → (ys ≡ [] → ⊥) → first_two (reverse xs ++ ys) ≡ two_pushed (first_two ys) xs
first_two-reverse [] ys some = refl
first_two-reverse (x ∷ xs) ys some =
    ap (λ (l : List ℕ). first_two (l ++ ys)) (reverse_onto xs x [])
    ∙ ap first_two (append_assoc (reverse xs) (x ∷ []) ys)
    ∙ first_two-reverse xs (x ∷ ys) (λ none. cc)
    ∙ ap (λ (t : Two). two_pushed t xs) (first_two_cons x ys some)

-- a list with a last value isn't empty
not_empty : (xs : List ℕ) (y : ℕ) → xs ++ (y ∷ []) ≡ [] → ⊥
not_empty [] y e = cc
not_empty (x ∷ xs) y e = cc

first_two-reverse_cons : (y : ℕ) (ys : List ℕ) → first_two (reverse (y ∷ ys)) ≡ two_pushed (two_of y y) ys
first_two-reverse_cons y ys = ap first_two (reverse_onto ys y []) ∙ first_two-reverse ys (y ∷ []) (λ none. cc)

-- a whole list pushed twice comes to the same two values
two_pushed_again : (two : Two) (v : ℕ) (vs : List ℕ) → two_pushed (two_pushed two (v ∷ vs)) (v ∷ vs) ≡ two_pushed (two_of v v) vs
two_pushed_again two v [] = refl
two_pushed_again two v (w ∷ vs) = refl

-- a whole round read to the left from a position is the same round walked to the right and then on
-- to that position
read_leftwards : (below from vs : List ℕ) (v : ℕ) → v ∷ vs ≡ below ++ from → first_two (reverse below ++ reverse from) ≡ two_pushed (two_pushed (two_of v v) (v ∷ vs)) below
read_leftwards below [] vs v parts =
    let whole : v ∷ vs ≡ below = parts ∙ append-nil below in
    ap first_two (append-nil (reverse below))
    ∙ rw (← whole) (first_two-reverse_cons v vs ∙ sym (two_pushed_again (two_of v v) v vs))
read_leftwards [] (f ∷ from) vs v parts =
    let head : f ≡ v = cc in
    let tail : from ≡ vs = cc in
    first_two-reverse_cons f from ∙ ap₂ (λ (y : ℕ) (ys : List ℕ). two_pushed (two_of y y) ys) head tail
read_leftwards (b ∷ below) (f ∷ from) vs v parts =
    let before = two_pushed (two_of v v) (b ∷ below) in
    let some : reverse (f ∷ from) ≡ [] → ⊥ = λ none. not_empty (reverse from) f (sym (reverse_onto from f []) ∙ none) in
    first_two-reverse (b ∷ below) (reverse (f ∷ from)) some
    ∙ ap (λ (t : Two). two_pushed t (b ∷ below)) (first_two-reverse_cons f from)
    ∙ sym (two_pushed-append (two_of f f) from (b ∷ below))
    ∙ two_pushed_same (two_of f f) (two_of before.last f) from b below refl
    ∙ two_pushed-append (two_of before.last f) from (b ∷ below)
    ∙ ap (λ (t : Two). two_pushed t (b ∷ below)) (sym (two_pushed-append (two_of v v) (b ∷ below) (f ∷ from)) ∙ ap (two_pushed (two_of v v)) (sym parts))

-- the two values to the left of a position are those met last before it
two_left-before : (n p : ℕ) (round : Round) → Rises 0 n round → two_left round p ≡ two_before round p
two_left-before n p [] h = refl
two_left-before n p ((q, v) ∷ round) h =
    let whole = (q, v) ∷ round in
    read_leftwards (values_below p whole) (values_from p whole) (values round) v (values-parts p 0 n whole h)
    ∙ ap (λ (t : Two). two_pushed t (values_below p whole)) (sym (two_after-pushed (two_of v v) whole))
    ∙ sym (two_below-pushed (two_ends whole) p 0 n whole h)

-- of the entries from some position on, those that stay are those that the walk keeps
staying-kept : (whole : Round) (two : Two) (low high : ℕ) (round : Round) → Rises low high round → ((p : ℕ) → low ≤ p → two_left whole p ≡ two_below two round p) → staying whole round ≡ kept two round
staying-kept whole two low high [] h met = refl
staying-kept whole two low high ((q, v) ∷ round) h met =
    let from = h.0.from in
    let here : two_left whole q ≡ two = met q from ∙ grind (arith, nat_tests) in
    let rest = staying-kept whole (two_of two.last v) (q + 1) high round h.1 (λ p le. met p (omega arith) ∙ grind (arith, nat_tests)) in
    rw (here, rest) refl

-- the next round is that of the walks
pub next_round-walk : (n : ℕ) (round : Round) → Rises 0 n round → next_round round ≡ walk_next round
next_round-walk n round h = staying-kept round (two_ends round) 0 n round h (λ p le. two_left-before n p round h)

-- the messages of a link are those of the walks
pub message_of-walk : (n : ℕ) (round : Round) (i k : ℕ) → Rises 0 n round → message_of round i k ≡ walk_message round i k
message_of-walk n [] i k h = refl
message_of-walk n (e ∷ round) i zero h = ap (λ (t : Two). Some t.last) (two_left-before n (i + 1) (e ∷ round) h)
message_of-walk n (e ∷ round) i (suc zero) h = ap (λ (t : Two). Some t.before) (two_left-before n (i + 1) (e ∷ round) h)
message_of-walk n (e ∷ round) i (suc (suc k)) h =
    ap (λ (r : Round). message_of r i k) (next_round-walk n (e ∷ round) h)
    ∙ message_of-walk n (walk_next (e ∷ round)) i k (Rises-kept (two_ends (e ∷ round)) 0 n (e ∷ round) h)

-- the last round is that of the walks
pub last_round-walk : (n limit : ℕ) (round : Round) → Rises 0 n round → last_round limit round ≡ walk_last limit round
last_round-walk n zero round h = refl
last_round-walk n (suc limit) round h =
    ap (λ (r : Round). if nat_lt 1 (length round) then r else round)
    (ap (last_round limit) (next_round-walk n round h) ∙ last_round-walk n limit (walk_next round) (Rises-kept (two_ends round) 0 n round h))
