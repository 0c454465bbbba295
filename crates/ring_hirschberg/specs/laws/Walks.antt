-- Walks round a ring: the position after some steps to one side. Each statement is for either side,
-- so that no lemma is written twice for left and right.
use Rattle.std.specs.Prelude.{◌≡◌, ◌+◌, ◌-◌, ◌<◌, ◌≤◌, ◌⊎◌, ℕ, zero, suc, refl}
use Rattle.std.proofs.Common.{ap, inl, inr, arith, le_of_lt}
use Rattle.std.proofs.lemmas.Bool.Decides.{nat_tests}
use Rattle.std.proofs.lemmas.Bool.{cases_lt}
use Rattle.ring_id.specs.declared.side.Side.{Side}
use Rattle.ring_id.specs.declared.side.Side.TheVariants.{Left, Right}
use Rattle.ring_id.specs.Sides.{other}
use Rattle.ring_roster.specs.Ring.{left_of, right_of, neighbour}
use Rattle.ring_election.proofs.Rings.{neighbour-below}

-- in a ring of n, the position after this many steps to that side
abbrev pub walk : ℕ → ℕ → Side → ℕ → ℕ
walk n i side zero = i
walk n i side (suc steps) = neighbour n (walk n i side steps) side

-- the other side of the other side
pub other_other : (side : Side) → other (other side) ≡ side
other_other Left = refl
other_other Right = refl

-- a walk stays in the ring
pub walk_below : (n i : ℕ) (side : Side) (steps : ℕ) → i < n → walk n i side steps < n
walk_below n i side zero h = h
walk_below n i side (suc steps) h = neighbour-below n (walk n i side steps) side (walk_below n i side steps h)

-- the first step may be made before the walk or after it
pub walk_first : (n i : ℕ) (side : Side) (steps : ℕ) → walk n (neighbour n i side) side steps ≡ walk n i side (suc steps)
walk_first n i side zero = refl
walk_first n i side (suc steps) = ap (λ p. neighbour n p side) (walk_first n i side steps)

-- the place of i after some steps to the right: not yet past the last position, or once past it
abbrev IsRight : ℕ → ℕ → ℕ → ℕ → Type 0
IsRight n i steps at =
    ((i + steps < n) × (at ≡ i + steps)) ⊎ ((n ≤ i + steps) × (at + n ≡ i + steps))

-- the same to the left: not yet past the first position, or once past it
abbrev IsLeft : ℕ → ℕ → ℕ → ℕ → Type 0
IsLeft n i steps at = ((steps ≤ i) × (at + steps ≡ i)) ⊎ ((i < steps) × (at + steps ≡ i + n))

-- the cases hold of each walk, step by step
right_start : (n i : ℕ) → i < n → IsRight n i 0 i
right_start n i h = grind arith

right_more : (n i steps at : ℕ) → i < n → suc steps ≤ n → IsRight n i steps at → IsRight n i (suc steps) (right_of n at)
right_more n i steps at below more is = grind (arith, nat_tests)

right_walk : (n i steps : ℕ) → i < n → steps ≤ n → IsRight n i steps (walk n i Right steps)
right_walk n i zero below more = right_start n i below
right_walk n i (suc steps) below more = right_more n i steps (walk n i Right steps) below more (right_walk n i steps below (le_of_lt more))

left_start : (n i : ℕ) → i < n → IsLeft n i 0 i
left_start n i h = grind arith

left_more : (n i steps at : ℕ) → i < n → suc steps ≤ n → IsLeft n i steps at → IsLeft n i (suc steps) (left_of n at)
left_more n i steps at below more is = grind (arith, nat_tests)

left_walk : (n i steps : ℕ) → i < n → steps ≤ n → IsLeft n i steps (walk n i Left steps)
left_walk n i zero below more = left_start n i below
left_walk n i (suc steps) below more = left_more n i steps (walk n i Left steps) below more (left_walk n i steps below (le_of_lt more))

-- the cases for n steps, for fewer, and for the steps from i to j
right_home : (n i at : ℕ) → i < n → IsRight n i n at → at ≡ i
right_home n i at below is = grind arith

left_home : (n i at : ℕ) → i < n → IsLeft n i n at → at ≡ i
left_home n i at below is = grind arith

-- n steps lead home
pub walk_home : (n i : ℕ) (side : Side) → i < n → walk n i side n ≡ i
walk_home n i Left below = left_home n i (walk n i Left n) below (left_walk n i n below (omega arith))
walk_home n i Right below = right_home n i (walk n i Right n) below (right_walk n i n below (omega arith))

right_away : (n i steps at : ℕ) → i < n → 1 ≤ steps → steps < n → IsRight n i steps at → at ≡ i → ⊥
right_away n i steps at below some few is e = grind arith

left_away : (n i steps at : ℕ) → i < n → 1 ≤ steps → steps < n → IsLeft n i steps at → at ≡ i → ⊥
left_away n i steps at below some few is e = grind arith

-- fewer steps don't
pub walk_away : (n i : ℕ) (side : Side) (steps : ℕ) → i < n → 1 ≤ steps → steps < n → walk n i side steps ≡ i → ⊥
walk_away n i Left steps below some few e = left_away n i steps (walk n i Left steps) below some few (left_walk n i steps below (omega arith)) e
walk_away n i Right steps below some few e = right_away n i steps (walk n i Right steps) below some few (right_walk n i steps below (omega arith)) e

-- some number of steps, fewer than n, leads from i to j
abbrev pub Leads : ℕ → ℕ → Side → ℕ → Type 0
Leads n i side j = (steps : ℕ) × (steps < n) × (walk n i side steps ≡ j)

right_at : (n i j at : ℕ) → i < n → j < n → i ≤ j → IsRight n i (j - i) at → at ≡ j
right_at n i j at below under le is = grind arith

right_round : (n i j at : ℕ) → i < n → j < n → j < i → IsRight n i (j + n - i) at → at ≡ j
right_round n i j at below under lt is = grind arith

left_at : (n i j at : ℕ) → i < n → j < n → j ≤ i → IsLeft n i (i - j) at → at ≡ j
left_at n i j at below under le is = grind arith

left_round : (n i j at : ℕ) → i < n → j < n → i < j → IsLeft n i (i + n - j) at → at ≡ j
left_round n i j at below under lt is = grind arith

-- every position is reached
pub walk_reaches : (n i : ℕ) (side : Side) (j : ℕ) → i < n → j < n → Leads n i side j
walk_reaches n i Left j below under =
    elim (cases_lt i j) [
      | inl lt ↦ (i + n - j, omega arith, left_round n i j (walk n i Left (i + n - j)) below under lt (left_walk n i (i + n - j) below (omega arith)))
      | inr le ↦ (i - j, omega arith, left_at n i j (walk n i Left (i - j)) below under le (left_walk n i (i - j) below (omega arith)))
    ]
walk_reaches n i Right j below under =
    elim (cases_lt j i) [
      | inl lt ↦ (j + n - i, omega arith, right_round n i j (walk n i Right (j + n - i)) below under lt (right_walk n i (j + n - i) below (omega arith)))
      | inr le ↦ (j - i, omega arith, right_at n i j (walk n i Right (j - i)) below under le (right_walk n i (j - i) below (omega arith)))
    ]
