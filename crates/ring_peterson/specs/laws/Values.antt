-- The values of a round are all different, and so are those of the next round.
use Rattle.std.specs.Prelude.{◌≡◌, ◌≢◌, ◌+◌, ◌==◌, ℕ, true, false, if◌then◌else◌, List, [], ◌∷◌, Some}
use Rattle.std.proofs.Common.{refl, arith, ap₂, sym}
use Rattle.std.proofs.lemmas.Option.{cond_some}
use Rattle.std.proofs.lemmas.Bool.Decides.{nat_tests}
use Rattle.ring_peterson.specs.Rounds.{Round, Two, stays_active, two_of}
use Rattle.ring_peterson.specs.laws.Walk.{kept, two_after, two_before, two_below, walk_next}
use Rattle.ring_peterson.specs.laws.Positions.{Rises, Rises-kept, value_at, value_at_low}

-- the values of a round
abbrev pub values : Round → List ℕ
values [] = []
values ((q, v) ∷ round) = v ∷ values round

-- the number is not one of these
abbrev pub IsApart : ℕ → List ℕ → Type 0
IsApart x [] = Unit {0}
IsApart x (y ∷ ys) = (x ≢ y) × IsApart x ys

-- these numbers are all different
abbrev pub AreDifferent : List ℕ → Type 0
AreDifferent [] = Unit {0}
AreDifferent (x ∷ xs) = IsApart x xs × AreDifferent xs

-- a round of a ring of n
pub record IsRound (n : ℕ) (round : Round) : Type 0 where
  pub rises : Rises 0 n round
  pub different : AreDifferent (values round)

-- the value before each entry, if this one comes before the first
abbrev pub shifted : ℕ → Round → List ℕ
shifted y [] = []
shifted y ((q, v) ∷ round) = y ∷ shifted v round

-- a round of one
abbrev pub single : ℕ → ℕ → Round
single i v = (i, v) ∷ []

-- an entry that stays has one of the values before
kept_apart : (y : ℕ) (two : Two) (round : Round) → IsApart y (shifted two.last round) → IsApart y (values (kept two round))
kept_apart y two [] h = tt
kept_apart y two ((q, v) ∷ round) h =
    let rest = kept_apart y (two_of two.last v) round h.1 in
    elim (stays_active v two) as (λ b. IsApart y (values (if b then (q, two.last) ∷ kept (two_of two.last v) round else kept (two_of two.last v) round))) [
      | true ↦ (h.0, rest)
      | false ↦ rest
    ]

-- so the values of the next round are different, if those before are
kept_different : (two : Two) (round : Round) → AreDifferent (shifted two.last round) → AreDifferent (values (kept two round))
kept_different two [] h = tt
kept_different two ((q, v) ∷ round) h =
    let rest = kept_different (two_of two.last v) round h.1 in
    elim (stays_active v two) as (λ b. AreDifferent (values (if b then (q, two.last) ∷ kept (two_of two.last v) round else kept (two_of two.last v) round))) [
      | true ↦ (kept_apart two.last (two_of two.last v) round h.0, rest)
      | false ↦ rest
    ]

-- the values before are the first ones of the walk
shifted_apart : (y v : ℕ) (round : Round) → IsApart y (v ∷ values round) → IsApart y (shifted v round)
shifted_apart y v [] h = tt
shifted_apart y v ((q, u) ∷ round) h = (h.0, shifted_apart y u round h.1)

-- so they are different, if those of the walk are
shifted_different : (v : ℕ) (round : Round) → AreDifferent (v ∷ values round) → AreDifferent (shifted v round)
shifted_different v [] h = tt
shifted_different v ((q, u) ∷ round) h = (shifted_apart v u round h.0, shifted_different u round h.1)

-- the value met last is one of the walk
pub last_apart : (y : ℕ) (two : Two) (round : Round) → IsApart y (two.last ∷ values round) → y ≢ (two_after two round).last
last_apart y two [] h = h.0
last_apart y two ((q, u) ∷ round) h = last_apart y (two_of two.last u) round h.1

-- the value met last is none of those before it
last_after_shifted : (two : Two) (round : Round) → AreDifferent (two.last ∷ values round) → IsApart (two_after two round).last (shifted two.last round)
last_after_shifted two [] h = tt
last_after_shifted two ((q, u) ∷ round) h =
    (λ same. last_apart two.last (two_of two.last u) round h.0 (sym same), last_after_shifted (two_of two.last u) round h.1)

-- the next round of a round is a round
pub IsRound-next : (n : ℕ) (round : Round) → IsRound n round → IsRound n (walk_next round)
IsRound-next n [] h = record { rises = tt; different = tt }
IsRound-next n ((q, v) ∷ round) h = record {
  rises = Rises-kept (two_after (two_of v v) round) 0 n ((q, v) ∷ round) h.rises;
  different = kept_different (two_after (two_of v v) round) ((q, v) ∷ round) (last_after_shifted (two_of v v) round h.different, shifted_different v round h.different);
}

-- a value isn't the one met before it
value_apart : (two : Two) (i v low high : ℕ) (round : Round) → Rises low high round → AreDifferent (two.last ∷ values round) → value_at round i ≡ Some v → v ≢ (two_below two round i).last
value_apart two i v low high [] h d e = absurd (cc)
value_apart two i v low high ((q, u) ∷ round) h d e =
    elim (q == i) as (λ b. (q == i) ≡ b → (if b then Some u else value_at round i) ≡ Some v → v ≢ (two_below two ((q, u) ∷ round) i).last) [
      | true ↦ λ here at same. let apart = d.0.0 in grind (arith, nat_tests)
      | false ↦ λ here at same. let none = value_at_low i (q + 1) high round h.1 in let rest = value_apart (two_of two.last u) i v (q + 1) high round h.1 d.1 at in grind (arith, nat_tests)
    ] refl e

-- in a round of two or more no position has the value of its predecessor
never_alone : (ends : Two) (n i v q u : ℕ) (round : Round) → Rises 0 n ((q, u) ∷ round) → AreDifferent (u ∷ values round) → u ≢ ends.last →
    value_at ((q, u) ∷ round) i ≡ Some v → v ≢ (two_below ends ((q, u) ∷ round) i).last
never_alone ends n i v q u round h d ne e =
    elim (q == i) as (λ b. (q == i) ≡ b → (if b then Some u else value_at round i) ≡ Some v → v ≢ (two_below ends ((q, u) ∷ round) i).last) [
      | true ↦ λ here at same. grind (arith, nat_tests)
      | false ↦ λ here at same. let none = value_at_low i (q + 1) n round h.1 in let rest = value_apart (two_of ends.last u) i v (q + 1) n round h.1 d at in grind (arith, nat_tests)
    ] refl e

-- a position whose predecessor holds the same value is its own predecessor: it is alone
pub stands_alone : (n i v : ℕ) (round : Round) → IsRound n round → value_at round i ≡ Some v → v ≡ (two_before round i).last → round ≡ single i v
stands_alone n i v [] h e same = absurd (cc)
stands_alone n i v ((q, u) ∷ []) h e same = let parts = cond_some (q == i) u v e in let here : q ≡ i = grind (arith, nat_tests) in ap₂ single here parts.1
stands_alone n i v ((q, u) ∷ (e ∷ round)) h at same =
    absurd (never_alone (two_after (two_of u e.1) round) n i v q u (e ∷ round) h.rises h.different (last_apart u (two_of u e.1) round h.different.0) at same)
