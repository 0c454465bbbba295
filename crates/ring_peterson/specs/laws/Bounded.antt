-- The messages of Peterson's election: each round at most halves, and each link carries two
-- messages a round.
use Rattle.std.specs.Prelude.{◌≡◌, ◌+◌, ◌*◌, ◌^◌, ◌<◌, ◌≤◌, ℕ, zero, suc, true, false, if◌then◌else◌, nat_lt, List, [], ◌∷◌, length, Some}
use Rattle.std.proofs.Common.{refl, ap, arith, inl, inr, get_or}
use Rattle.std.proofs.lemmas.Bool.{cases_lt, ltb-true}
use Rattle.std.proofs.lemmas.Option.{slice_get-get_or}
use Rattle.ring_id.specs.declared.side.Side.{Side}
use Rattle.ring_id.specs.declared.side.Side.TheVariants.{Left}
use Rattle.ring_roster.specs.Ring.{left_of}
use Rattle.ring_election.specs.Traces.{taken_from}
use Rattle.ring_election.specs.Families.{AllFit}
use Rattle.ring_election.specs.Laws.{Bounded}
use Rattle.ring_election.proofs.Families.{length-taken, taken-none_from_right, taken_in_all-at_most}
use Rattle.ring_peterson.specs.Peterson.{peterson_table}
use Rattle.ring_peterson.specs.Rounds.{Round, first_round, floor_log2, log2_up_to, peterson_bound, peterson_fits}
use Rattle.ring_peterson.specs.laws.Walk.{walk_message, walk_next}
use Rattle.ring_peterson.specs.laws.Shrinks.{length-next_half}
use Rattle.ring_peterson.specs.laws.Messages.{AreMessages}
use Rattle.ring_peterson.specs.laws.FirstRound.{length-first}
use Rattle.ring_peterson.specs.laws.Lawful.{taken-messages}

-- a round of fewer than 2 ^ t positions has no message from 2 * t on
message_bound : (t : ℕ) (round : Round) (i k m : ℕ) → length round < 2 ^ t → walk_message round i k ≡ Some m → k < 2 * t
message_bound t [] i k m small e = absurd (cc)
message_bound zero (x ∷ round) i k m small e = absurd (omega arith)
message_bound (suc t) (x ∷ round) i zero m small e = omega arith
message_bound (suc t) (x ∷ round) i (suc zero) m small e = omega arith
message_bound (suc t) (x ∷ round) i (suc (suc k)) m small e =
    let half = length-next_half (x ∷ round) in
    let rest = message_bound t (walk_next (x ∷ round)) i k m (omega arith) e in
    omega arith

messages_bound : (t : ℕ) (round : Round) (j : ℕ) (ms : List ℕ) → length round < 2 ^ t → AreMessages round j ms → length ms ≤ 2 * t
messages_bound t round j ms small h =
    elim (cases_lt (2 * t) (length ms)) [
      | inl more ↦ let past = message_bound t round j (2 * t) (get_or ms (2 * t) 0) small (h.each (2 * t) (get_or ms (2 * t) 0) (slice_get-get_or ms (2 * t) 0 more)) in absurd (omega arith)
      | inr le ↦ le
    ]

-- a number is below the next power of two
below_power : (n : ℕ) → n < 2 ^ suc n
below_power zero = omega arith
below_power (suc n) = let rest = below_power n in omega arith

log2_up_to-above : (limit n : ℕ) → n < 2 ^ suc limit → n < 2 ^ suc (log2_up_to limit n)
log2_up_to-above zero n h = h
log2_up_to-above (suc limit) n h =
    elim (nat_lt n (2 ^ suc limit)) as (λ b. nat_lt n (2 ^ suc limit) ≡ b → n < 2 ^ suc (if b then log2_up_to limit n else suc limit)) [
      | true ↦ λ below. log2_up_to-above limit n (ltb-true n (2 ^ suc limit) below)
      | false ↦ λ above. h
    ] refl

pub floor_log2-above : (n : ℕ) → n < 2 ^ suc (floor_log2 n)
floor_log2-above n = log2_up_to-above n n (below_power n)

-- the messages that one position has taken
taken_bound : (ring : List ℕ) (i : ℕ) (receipts : List (Side × ℕ)) → AllFit peterson_fits ring i receipts → length receipts ≤ 2 * (floor_log2 (length ring) + 1)
taken_bound ring i receipts all =
    let power = floor_log2-above (length ring) in
    let size = length-first 0 ring in
    let left = messages_bound (suc (floor_log2 (length ring))) (first_round ring) (left_of (length ring) i) (taken_from Left receipts) (omega arith) (taken-messages ring i receipts all) in
    let right = ap (length {A = ℕ}) (taken-none_from_right peterson_fits ring i receipts all (λ j k m h. h)) in
    let both = length-taken receipts in
    omega arith

pub peterson_bounded : Bounded peterson_table peterson_fits peterson_bound
peterson_bounded = record {
  work_is_bounded = λ ring family is_ring fits sound.
      let total = taken_in_all-at_most (length ring) (2 * (floor_log2 (length ring) + 1)) family (λ i below. taken_bound ring i (family i) (fits.at i below)) in
      omega arith;
}
