-- The rounds by their numbers. Messages 2 * p and 2 * p + 1 of a link are those of round p. Each
-- round shrinks.
use Rattle.std.specs.Prelude.{◌≡◌, ◌+◌, ◌*◌, ℕ, zero, suc, [], ◌∷◌, length, None}
use Rattle.std.proofs.Common.{refl, sym, ap, ◌∙◌, subst, arith}
use Rattle.ring_peterson.specs.Rounds.{MessagesAreOfRounds, Round, RoundsShrink, first_round, message_of, next_round, rounds}
use Rattle.ring_peterson.specs.laws.Walk.{walk_next}
use Rattle.ring_peterson.specs.laws.Values.{IsRound, IsRound-next}
use Rattle.ring_peterson.specs.laws.FirstRound.{IsRound-first}
use Rattle.ring_peterson.specs.laws.Shrinks.{length-next_half, length-next_some}
use Rattle.ring_peterson.specs.laws.Reading.{next_round-walk}

-- the messages of a round are two steps on from those of the round before
message_of-next : (round : Round) (i k : ℕ) → message_of round i (suc (suc k)) ≡ message_of (next_round round) i k
message_of-next [] i k = refl
message_of-next (e ∷ round) i k = refl

-- message 2 * p of a link is the first one of round p
message_of-even : (p : ℕ) (round : Round) (i : ℕ) → message_of round i (2 * p) ≡ message_of (rounds p round) i 0
message_of-even zero round i = refl
message_of-even (suc p) round i =
    let e : 2 * suc p ≡ suc (suc (2 * p)) = omega arith in
    rw e (message_of-next round i (2 * p) ∙ message_of-even p (next_round round) i)

-- message 2 * p + 1 of a link is the second one of round p
message_of-odd : (p : ℕ) (round : Round) (i : ℕ) → message_of round i (2 * p + 1) ≡ message_of (rounds p round) i 1
message_of-odd zero round i = refl
message_of-odd (suc p) round i =
    let e : 2 * suc p + 1 ≡ suc (suc (2 * p + 1)) = omega arith in
    rw e (message_of-next round i (2 * p + 1) ∙ message_of-odd p (next_round round) i)

pub messages_by_rounds : MessagesAreOfRounds
messages_by_rounds ring p i = (message_of-even p (first_round ring) i, message_of-odd p (first_round ring) i)

-- no message is sent past the last round
message_of-past : (p : ℕ) (round : Round) (i : ℕ) → rounds p round ≡ [] → message_of round i (2 * p) ≡ None
message_of-past p round i none = message_of-even p round i ∙ ap (λ (r : Round). message_of r i 0) none

-- a round after these rounds is the one after them
rounds-suc : (p : ℕ) (round : Round) → rounds (suc p) round ≡ next_round (rounds p round)
rounds-suc zero round = refl
rounds-suc (suc p) round = rounds-suc p (next_round round)

IsRound-rounds : (n p : ℕ) (round : Round) → IsRound n round → IsRound n (rounds p round)
IsRound-rounds n zero round h = h
IsRound-rounds n (suc p) round h =
    subst (λ (r : Round). IsRound n (rounds p r)) (sym (next_round-walk n round h.rises)) (IsRound-rounds n p (walk_next round) (IsRound-next n round h))

-- each round shrinks
pub rounds_halve : RoundsShrink
rounds_halve ring p is_ring two =
    let round = rounds p (first_round ring) in
    let is_round = IsRound-rounds (length ring) p (first_round ring) (IsRound-first ring is_ring) in
    let step : p + 1 ≡ suc p = omega arith in
    let next : rounds (p + 1) (first_round ring) ≡ walk_next round = rw step (rounds-suc p (first_round ring) ∙ next_round-walk (length ring) round is_round.rises) in
    rw next (record { some = length-next_some (length ring) round is_round two; half = length-next_half round })
