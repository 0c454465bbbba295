-- A round of two or more leaves at least one position, and at most half of them. So the rounds come
-- to one position, which was active in all of them.
use Rattle.std.specs.Prelude.{◌≡◌, ◌≢◌, ◌+◌, ◌*◌, ◌<◌, ◌≤◌, ℕ, zero, suc, true, false, if◌then◌else◌, nat_lt, [], ◌∷◌, length, Some, None}
use Rattle.std.proofs.Common.{refl, arith, sym, ap, ◌∙◌, ◌⊎◌, inl, inr}
use Rattle.std.proofs.lemmas.Bool.{cases_lt}
use Rattle.std.proofs.lemmas.Bool.Decides.{nat_tests}
use Rattle.ring_peterson.specs.Rounds.{Round, Two, stays_active, two_of}
use Rattle.ring_peterson.specs.laws.Walk.{kept, two_after, two_ends, walk_last, walk_next}
use Rattle.ring_peterson.specs.laws.Positions.{two_after-ends, value_at, value_at-kept_none}
use Rattle.ring_peterson.specs.laws.Values.{AreDifferent, IsRound, IsRound-next, last_apart, single, values}

-- 1 if the second of two values is the greater, otherwise 0
abbrev rise : Two → ℕ
rise two = if nat_lt two.before two.last then 1 else 0

-- An entry that stays is after a rise, and no entry that stays follows it. So at most half of the
-- entries stay, apart from the rises at the two ends of the walk.
kept_half : (two : Two) (round : Round) → 2 * length (kept two round) + rise (two_after two round) ≤ length round + rise two
kept_half two [] = omega arith
kept_half two ((q, v) ∷ round) =
    let rest = kept_half (two_of two.last v) round in
    let after = rise (two_after (two_of two.last v) round) in
    elim (stays_active v two) as (λ b. stays_active v two ≡ b → 2 * length (if b then (q, two.last) ∷ kept (two_of two.last v) round else kept (two_of two.last v) round) + after ≤ suc (length round) + rise two) [
      | true ↦ λ stays. grind (arith, nat_tests)
      | false ↦ λ leaves. grind (arith, nat_tests)
    ] refl

-- at most half of a round stay
pub length-next_half : (round : Round) → 2 * length (walk_next round) ≤ length round
length-next_half round = let half = kept_half (two_ends round) round in let ends = two_after-ends round in let half_again = rw ends at half in omega arith

-- each of the values that follow differs from the one before it
abbrev NeighboursDiffer : ℕ → Round → Type 0
NeighboursDiffer y [] = Unit {0}
NeighboursDiffer y ((q, v) ∷ round) = (y ≢ v) × NeighboursDiffer v round

neighbours_from_different : (y : ℕ) (round : Round) → AreDifferent (y ∷ values round) → NeighboursDiffer y round
neighbours_from_different y [] h = tt
neighbours_from_different y ((q, v) ∷ round) h = (h.0.0, neighbours_from_different v round h.1)

-- if nothing stays, the first entry doesn't, and nothing stays of the rest
none_kept : (two : Two) (q v : ℕ) (round : Round) → kept two ((q, v) ∷ round) ≡ [] → (stays_active v two ≡ false) × (kept (two_of two.last v) round ≡ [])
none_kept two q v round none =
    elim (stays_active v two) as (λ b. (if b then (q, two.last) ∷ kept (two_of two.last v) round else kept (two_of two.last v) round) ≡ [] → (b ≡ false) × (kept (two_of two.last v) round ≡ [])) [
      | true ↦ λ e. absurd (cc)
      | false ↦ λ e. (refl, e)
    ] none

-- if nothing stays, a walk that rises goes on rising
rising : (two : Two) (round : Round) → kept two round ≡ [] → NeighboursDiffer two.last round → two.before < two.last →
    ((two_after two round).before < (two_after two round).last) × (two.last ≤ (two_after two round).last)
rising two [] none steps up = (up, omega arith)
rising two ((q, v) ∷ round) none steps up =
    let parts = none_kept two q v round none in
    let leaves = parts.0 in
    let step = steps.0 in
    let higher : two.last < v = grind (arith, nat_tests) in
    let rest = rising (two_of two.last v) round parts.1 steps.1 higher in
    (rest.0, omega arith)

-- if nothing stays, a walk ends with a rise, or no higher than it began
ends_low : (two : Two) (round : Round) → kept two round ≡ [] → NeighboursDiffer two.last round →
    ((two_after two round).before < (two_after two round).last) ⊎ ((two_after two round).last ≤ two.last)
ends_low two [] none steps = inr (omega arith)
ends_low two ((q, v) ∷ round) none steps =
    let parts = none_kept two q v round none in
    let step = steps.0 in
    elim (cases_lt two.last v) [
      | inl up ↦ inl (rising (two_of two.last v) round parts.1 steps.1 up).0
      | inr down ↦ elim (ends_low (two_of two.last v) round parts.1 steps.1) [ inl up ↦ inl up | inr low ↦ inr (omega arith) ]
    ]

-- a walk of one step or more can't come round to its beginning if nothing stays
comes_round : (two : Two) (q v : ℕ) (round : Round) → kept two ((q, v) ∷ round) ≡ [] → NeighboursDiffer two.last ((q, v) ∷ round) → two_after two ((q, v) ∷ round) ≡ two → ⊥
comes_round two q v round none steps again =
    let parts = none_kept two q v round none in
    let leaves = parts.0 in
    let step = steps.0 in
    elim (cases_lt two.last v) [
      | inl up ↦ let rest = rising (two_of two.last v) round parts.1 steps.1 up in let last = ap (λ (t : Two). t.last) again in omega arith
      | inr down ↦ elim (ends_low (two_of two.last v) round parts.1 steps.1) [
        | inl up ↦ let last = ap (λ (t : Two). t.last) again in let before = ap (λ (t : Two). t.before) again in grind (arith, nat_tests)
        | inr low ↦ let last = ap (λ (t : Two). t.last) again in omega arith
      ]
    ]

length_from_some : (round : Round) → (round ≡ [] → ⊥) → 1 ≤ length round
length_from_some [] some = absurd (some refl)
length_from_some (e ∷ round) some = omega arith

-- of two or more at least one stays
pub length-next_some : (n : ℕ) (round : Round) → IsRound n round → 2 ≤ length round → 1 ≤ length (walk_next round)
length-next_some n [] h le = omega arith
length-next_some n (e ∷ []) h le = omega arith
length-next_some n ((q, v) ∷ (e ∷ round)) h le =
    let ends = two_after (two_of v e.1) round in
    let whole = (q, v) ∷ (e ∷ round) in
    let ne = last_apart v (two_of v e.1) round h.different.0 in
    length_from_some (walk_next whole) (λ none. comes_round ends q v (e ∷ round) none (λ same. ne (sym same), neighbours_from_different v (e ∷ round) h.different) (two_after-ends whole))

-- one position is left, of a ring of n
pub record IsLastOne (n : ℕ) (round : Round) : Type 0 where
  pub position : ℕ
  pub value : ℕ
  pub alone : round ≡ single position value
  pub below : position < n

one_left : (n : ℕ) (round : Round) → IsRound n round → 1 ≤ length round → length round ≤ 1 → IsLastOne n round
one_left n [] h some le = absurd (omega arith)
one_left n ((q, v) ∷ []) h some le = record { position = q; value = v; alone = refl; below = h.rises.0.below }
one_left n (e ∷ (f ∷ round)) h some le = absurd (omega arith)

-- the rounds of a ring come to one position
pub walk_last-alone : (n limit : ℕ) (round : Round) → IsRound n round → 1 ≤ length round → length round ≤ limit → IsLastOne n (walk_last limit round)
walk_last-alone n zero round h some le = absurd (omega arith)
walk_last-alone n (suc limit) round h some le =
    let half = length-next_half round in
    elim (nat_lt 1 (length round)) as (λ b. nat_lt 1 (length round) ≡ b → IsLastOne n (if b then walk_last limit (walk_next round) else round)) [
      | true ↦ λ more. let two : 2 ≤ length round = grind (arith, nat_tests) in walk_last-alone n limit (walk_next round) (IsRound-next n round h) (length-next_some n round h two) (omega arith)
      | false ↦ λ one. one_left n round h some (grind (arith, nat_tests))
    ] refl

-- a position that stays was active
was_active : (two : Two) (p : ℕ) (round : Round) → ((v : ℕ) × (value_at (kept two round) p ≡ Some v)) → (v : ℕ) × (value_at round p ≡ Some v)
was_active two p round stays =
    elim (value_at round p) as (λ o. value_at round p ≡ o → (v : ℕ) × (o ≡ Some v)) [
      | None ↦ λ none. let gone = value_at-kept_none two p round none in let there = stays.1 in absurd (cc)
      | Some v ↦ λ here. (v, refl)
    ] refl

-- a position that is left at last was active before
pub last_was_active : (limit p w : ℕ) (round : Round) → walk_last limit round ≡ single p w → (v : ℕ) × (value_at round p ≡ Some v)
last_was_active zero p w round last = (w, ap (λ (r : Round). value_at r p) last ∙ grind (arith, nat_tests))
last_was_active (suc limit) p w round last =
    elim (nat_lt 1 (length round)) as (λ b. (if b then walk_last limit (walk_next round) else round) ≡ single p w → (v : ℕ) × (value_at round p ≡ Some v)) [
      | true ↦ λ next. was_active (two_ends round) p round (last_was_active limit p w (walk_next round) next)
      | false ↦ λ here. (w, ap (λ (r : Round). value_at r p) here ∙ grind (arith, nat_tests))
    ] last
