-- The positions of a round: the values that a walk meets to the left of one, and those that stay.
use Rattle.std.specs.Prelude.{◌≡◌, ◌+◌, ◌<◌, ◌≤◌, ◌==◌, ◌-◌, ◌≢◌, ℕ, true, false, if◌then◌else◌, [], ◌∷◌, Option, Some, None}
use Rattle.std.proofs.Common.{refl, arith, sym, ◌∙◌}
use Rattle.std.proofs.lemmas.Bool.Decides.{nat_tests}
use Rattle.ring_roster.specs.Ring.{left_of}
use Rattle.ring_peterson.specs.Rounds.{Round, Two, stays_active, two_of}
use Rattle.ring_peterson.specs.laws.Walk.{kept, two_after, two_before, two_below, two_ends}

-- a position within these bounds
pub record IsWithin (low high position : ℕ) : Type 0 where
  pub from : low ≤ position
  pub below : position < high

-- the positions of a round rise, within these bounds
abbrev pub Rises : ℕ → ℕ → Round → Type 0
Rises low high [] = Unit {0}
Rises low high ((q, v) ∷ round) = IsWithin low high q × Rises (q + 1) high round

-- the value that a position holds, if it is active
abbrev pub value_at : Round → ℕ → Option ℕ
value_at [] i = None
value_at ((q, v) ∷ round) i = if q == i then Some v else value_at round i

-- a position that isn't active adds no value to those met
pub two_below-relay : (two : Two) (i : ℕ) (round : Round) → value_at round i ≡ None → two_below two round (i + 1) ≡ two_below two round i
two_below-relay two i [] h = refl
two_below-relay two i ((q, v) ∷ round) h = grind (arith, nat_tests, two_below-relay (two_of two.last v) i round)

-- no position below the bound is active
pub value_at_low : (i low high : ℕ) (round : Round) → Rises low high round → i < low → value_at round i ≡ None
value_at_low i low high [] h lt = refl
value_at_low i low high ((q, v) ∷ round) h lt = let from = h.0.from in let rest = value_at_low i (q + 1) high round h.1 (omega arith) in grind (arith, nat_tests)

-- below the positions no value is met
pub two_below_low : (two : Two) (p low high : ℕ) (round : Round) → Rises low high round → p ≤ low → two_below two round p ≡ two
two_below_low two p low high [] h le = refl
two_below_low two p low high ((q, v) ∷ round) h le = let from = h.0.from in grind (arith, nat_tests)

-- above the positions all of them are met
pub two_below_high : (two : Two) (p low high : ℕ) (round : Round) → Rises low high round → high ≤ p → two_below two round p ≡ two_after two round
two_below_high two p low high [] h le = refl
two_below_high two p low high ((q, v) ∷ round) h le = let below = h.0.below in grind (arith, nat_tests, two_below_high (two_of two.last v) p (q + 1) high round h.1 le)

-- an active position adds its value to those met
pub two_below-active : (two : Two) (i v low high : ℕ) (round : Round) → Rises low high round → value_at round i ≡ Some v → two_below two round (i + 1) ≡ two_of (two_below two round i).last v
two_below-active two i v low high [] h e = cc
two_below-active two i v low high ((q, u) ∷ round) h e =
    elim (q == i) as (λ b. (q == i) ≡ b → (if b then Some u else value_at round i) ≡ Some v → two_below two ((q, u) ∷ round) (i + 1) ≡ two_of (two_below two ((q, u) ∷ round) i).last v) [
      | true ↦ λ here at. let low_two = two_below_low (two_of two.last u) (i + 1) (q + 1) high round h.1 in grind (arith, nat_tests)
      | false ↦ λ here at. let rest = two_below-active (two_of two.last u) i v (q + 1) high round h.1 at in let none = value_at_low i (q + 1) high round h.1 in grind (arith, nat_tests)
    ] refl e

-- a position that isn't active isn't active in the next round
pub value_at-kept_none : (two : Two) (i : ℕ) (round : Round) → value_at round i ≡ None → value_at (kept two round) i ≡ None
value_at-kept_none two i [] h = refl
value_at-kept_none two i ((q, v) ∷ round) h = grind (arith, nat_tests, value_at-kept_none (two_of two.last v) i round)

-- an active position stays if the two values to its left say so, with its predecessor's value
pub value_at-kept_some : (two : Two) (i v low high : ℕ) (round : Round) → Rises low high round → value_at round i ≡ Some v →
    value_at (kept two round) i ≡ if stays_active v (two_below two round i) then Some (two_below two round i).last else None
value_at-kept_some two i v low high [] h e = cc
value_at-kept_some two i v low high ((q, u) ∷ round) h e =
    elim (q == i) as (λ b. (q == i) ≡ b → (if b then Some u else value_at round i) ≡ Some v → value_at (kept two ((q, u) ∷ round)) i ≡ if stays_active v (two_below two ((q, u) ∷ round) i) then Some (two_below two ((q, u) ∷ round) i).last else None) [
      | true ↦ λ here at. let none = value_at-kept_none (two_of two.last u) i round (value_at_low i (q + 1) high round h.1 (grind (arith, nat_tests))) in grind (arith, nat_tests)
      | false ↦ λ here at. let rest = value_at-kept_some (two_of two.last u) i v (q + 1) high round h.1 at in let none = value_at_low i (q + 1) high round h.1 in grind (arith, nat_tests)
    ] refl e

-- a lower bound may be lowered
pub Rises_lower : (low lower high : ℕ) (round : Round) → lower ≤ low → Rises low high round → Rises lower high round
Rises_lower low lower high [] le h = tt
Rises_lower low lower high ((q, v) ∷ round) le h = let from = h.0.from in (record { from = omega arith; below = h.0.below }, h.1)

-- the positions of the next round rise
pub Rises-kept : (two : Two) (low high : ℕ) (round : Round) → Rises low high round → Rises low high (kept two round)
Rises-kept two low high [] h = tt
Rises-kept two low high ((q, v) ∷ round) h =
    let from = h.0.from in
    let rest = Rises-kept (two_of two.last v) (q + 1) high round h.1 in
    elim (stays_active v two) as (λ b. Rises low high (if b then (q, two.last) ∷ kept (two_of two.last v) round else kept (two_of two.last v) round)) [
      | true ↦ (h.0, rest)
      | false ↦ Rises_lower (q + 1) low high (kept (two_of two.last v) round) (omega arith) rest
    ]

-- after a walk over a whole round a second walk comes to the same two values
two_after_again : (two : Two) (q v : ℕ) (round : Round) → two_after (two_after two ((q, v) ∷ round)) ((q, v) ∷ round) ≡ two_after (two_of v v) ((q, v) ∷ round)
two_after_again two q v [] = refl
two_after_again two q v (e ∷ round) = refl

-- so a walk that begins with the last two values of a round comes to them again
pub two_after-ends : (round : Round) → two_after (two_ends round) round ≡ two_ends round
two_after-ends [] = refl
two_after-ends ((q, v) ∷ round) = two_after_again (two_of v v) q v round

-- the values met left of a position are those met at or left of its left neighbour, all round
pub two_before-left_of : (n i : ℕ) (round : Round) → Rises 0 n round → i < n → two_before round (left_of n i + 1) ≡ two_before round i
two_before-left_of n i round h lt =
    let whole = two_after-ends round in
    let low_two = two_below_low (two_ends round) 0 0 n round h (omega arith) in
    let high_two = two_below_high (two_ends round) n 0 n round h (omega arith) in
    elim (i == 0) as (λ b. (i == 0) ≡ b → two_before round ((if b then n - 1 else i - 1) + 1) ≡ two_before round i) [
      | true ↦ λ first. let zero_is : i ≡ 0 = grind (arith, nat_tests) in let last_is : (n - 1) + 1 ≡ n = omega arith in rw (zero_is, last_is) (high_two ∙ whole ∙ sym low_two)
      | false ↦ λ other. let positive : i ≢ 0 = grind (arith, nat_tests) in let same : (i - 1) + 1 ≡ i = omega arith in rw same refl
    ] refl
