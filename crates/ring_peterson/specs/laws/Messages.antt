-- A node sends the messages of its link, if it takes those of its left neighbour's link. State and
-- round go together, two receipts at a time. A node that is active in a round holds the value of
-- its position. A relay is at a position that isn't in the round.
use Rattle.std.specs.Prelude.{◌≡◌, ◌+◌, ◌<◌, ◌==◌, ◌||◌, ℕ, zero, suc, Bool, true, false, if◌then◌else◌, List, [], ◌∷◌, ◌++◌, Some, None, slice_get}
use Rattle.std.proofs.Common.{refl, sym, ap, ◌∙◌}
use Rattle.std.proofs.lemmas.Option.{same_Some}
use Rattle.ring_roster.specs.Ring.{left_of}
use Rattle.ring_peterson.specs.Rounds.{Round, Two}
use Rattle.ring_peterson.specs.laws.Walk.{two_before, two_ends, walk_message, walk_next}
use Rattle.ring_peterson.specs.laws.Positions.{Rises, Rises-kept, two_before-left_of, two_below-active, two_below-relay, value_at, value_at-kept_none, value_at-kept_some}
use Rattle.ring_peterson.specs.Peterson.{is_peak, third_next, third_sends}
use Rattle.ring_election.specs.Tables.{nothing, rightward}
use Rattle.ring_election.specs.Traces.{listed}
use Rattle.ring_peterson.specs.laws.Receipts.{active, answered, answered-relay, relay}

-- these are the first messages of the right link of position j, from this round on
pub record AreMessages (round : Round) (j : ℕ) (messages : List ℕ) : Type 0 where
  pub each : (k m : ℕ) → slice_get messages k ≡ Some m → walk_message round j k ≡ Some m

-- the messages of one round, if the round isn't empty
walk_message-0 : (round : Round) (i v j : ℕ) → value_at round i ≡ Some v → walk_message round j 0 ≡ Some (two_before round (j + 1)).last
walk_message-0 [] i v j there = absurd (cc)
walk_message-0 (e ∷ round) i v j there = refl

walk_message-1 : (round : Round) (i v j : ℕ) → value_at round i ≡ Some v → walk_message round j 1 ≡ Some (two_before round (j + 1)).before
walk_message-1 [] i v j there = absurd (cc)
walk_message-1 (e ∷ round) i v j there = refl

walk_message-next : (round : Round) (j k : ℕ) → walk_message round j (suc (suc k)) ≡ walk_message (walk_next round) j k
walk_message-next [] j k = refl
walk_message-next (e ∷ round) j k = refl

-- putting such messages together
messages_one : (round : Round) (j v : ℕ) → walk_message round j 0 ≡ Some v → AreMessages round j (v ∷ [])
messages_one round j v first = record { each = at }
  where
    at : (k m : ℕ) → slice_get (v ∷ []) k ≡ Some m → walk_message round j k ≡ Some m
    at zero m e = first ∙ e
    at (suc k) m e = absurd (cc)

messages_two : (round : Round) (j v w : ℕ) (ms : List ℕ) → walk_message round j 0 ≡ Some v → walk_message round j 1 ≡ Some w → AreMessages (walk_next round) j ms → AreMessages round j (v ∷ (w ∷ ms))
messages_two round j v w ms first second rest = record { each = at }
  where
    at : (k m : ℕ) → slice_get (v ∷ (w ∷ ms)) k ≡ Some m → walk_message round j k ≡ Some m
    at zero m e = first ∙ e
    at (suc zero) m e = second ∙ e
    at (suc (suc k)) m e = walk_message-next round j k ∙ rest.each k m e

-- taking them apart
pub messages_next : (round : Round) (j v w : ℕ) (ms : List ℕ) → AreMessages round j (v ∷ (w ∷ ms)) → AreMessages (walk_next round) j ms
messages_next round j v w ms h = record { each = λ k m e. sym (walk_message-next round j k) ∙ h.each (suc (suc k)) m e }

-- a relay has the messages of its left neighbour
walk_message-relay : (n i k : ℕ) (round : Round) → i < n → Rises 0 n round → value_at round i ≡ None → walk_message round i k ≡ walk_message round (left_of n i) k
walk_message-relay n i k [] below h none = refl
walk_message-relay n i zero (e ∷ round) below h none =
    ap (λ (t : Two). Some t.last) (two_below-relay (two_ends (e ∷ round)) i (e ∷ round) none ∙ sym (two_before-left_of n i (e ∷ round) h below))
walk_message-relay n i (suc zero) (e ∷ round) below h none =
    ap (λ (t : Two). Some t.before) (two_below-relay (two_ends (e ∷ round)) i (e ∷ round) none ∙ sym (two_before-left_of n i (e ∷ round) h below))
walk_message-relay n i (suc (suc k)) (e ∷ round) below h none =
    walk_message-relay n i k (walk_next (e ∷ round)) below (Rises-kept (two_ends (e ∷ round)) 0 n (e ∷ round) h) (value_at-kept_none (two_ends (e ∷ round)) i (e ∷ round) none)

-- so it passes on its own messages and no others
messages-relay : (n i : ℕ) (round : Round) (ms : List ℕ) → i < n → Rises 0 n round → value_at round i ≡ None → AreMessages round (left_of n i) ms → AreMessages round i ms
messages-relay n i round ms below h none from = record { each = λ k m e. walk_message-relay n i k round below h none ∙ from.each k m e }

-- An active position takes the two values to its left: the first two messages of its left neighbour
-- in this round.
pub takes_last : (n i v m : ℕ) (round : Round) (ms : List ℕ) → i < n → Rises 0 n round → value_at round i ≡ Some v → AreMessages round (left_of n i) (m ∷ ms) → m ≡ (two_before round i).last
takes_last n i v m round ms below h there from =
    same_Some m (two_before round i).last
    (sym (from.each 0 m refl) ∙ walk_message-0 round i v (left_of n i) there ∙ ap (λ (t : Two). Some t.last) (two_before-left_of n i round h below))

takes_before : (n i v m third : ℕ) (round : Round) (ms : List ℕ) → i < n → Rises 0 n round → value_at round i ≡ Some v → AreMessages round (left_of n i) (m ∷ (third ∷ ms)) → third ≡ (two_before round i).before
takes_before n i v m third round ms below h there from =
    same_Some third (two_before round i).before
    (sym (from.each 1 third refl) ∙ walk_message-1 round i v (left_of n i) there ∙ ap (λ (t : Two). Some t.before) (two_before-left_of n i round h below))

-- So it stays if and only if the node does, with the value that the node takes over.
pub value_at-next : (n i v m third : ℕ) (round : Round) (ms : List ℕ) → i < n → Rises 0 n round → value_at round i ≡ Some v → AreMessages round (left_of n i) (m ∷ (third ∷ ms)) →
    value_at (walk_next round) i ≡ if is_peak v m third then Some m else None
value_at-next n i v m third round ms below h there from =
    let last = takes_last n i v m round (third ∷ ms) below h there from in
    let before = takes_before n i v m third round ms below h there from in
    rw (last, before) (value_at-kept_some (two_ends round) i v 0 n round h there)

-- its own messages in this round are its value and its predecessor's
pub own_first : (n i v : ℕ) (round : Round) → Rises 0 n round → value_at round i ≡ Some v → walk_message round i 0 ≡ Some v
own_first n i v round h there = walk_message-0 round i v i there ∙ ap (λ (t : Two). Some t.last) (two_below-active (two_ends round) i v 0 n round h there)

own_second : (n i v m : ℕ) (round : Round) (ms : List ℕ) → i < n → Rises 0 n round → value_at round i ≡ Some v → AreMessages round (left_of n i) (m ∷ ms) → walk_message round i 1 ≡ Some m
own_second n i v m round ms below h there from =
    walk_message-1 round i v i there
    ∙ ap (λ (t : Two). Some t.before) (two_below-active (two_ends round) i v 0 n round h there)
    ∙ ap (λ (x : ℕ). Some x) (sym (takes_last n i v m round ms below h there from))

-- All messages that an active node sends, beginning with its value, which it sent before the first
-- receipt of the round.
pub answered-messages : (n i me v : ℕ) (c : Bool) (round : Round) (ms : List ℕ) → i < n → Rises 0 n round → value_at round i ≡ Some v → AreMessages round (left_of n i) ms →
    AreMessages round i (v ∷ answered (active me v c) ms)
answered-messages n i me v c round [] below h there from = messages_one round i v (own_first n i v round h there)
answered-messages n i me v c round (m ∷ []) below h there from =
    messages_two round i v m [] (own_first n i v round h there) (own_second n i v m round [] below h there from) (record { each = λ k w e. absurd (cc) })
answered-messages n i me v c round (m ∷ (third ∷ ms)) below h there from =
    let next = messages_next round (left_of n i) m third ms from in
    let rises = Rises-kept (two_ends round) 0 n round h in
    let chosen = c || (m == v) in
    let state = record (active me v chosen) { uid2 = Some m } in
    messages_two round i v m (listed (third_sends state m third).right ++ answered (third_next state m third) ms)
    (own_first n i v round h there)
    (own_second n i v m round (third ∷ ms) below h there from)
    (elim (is_peak v m third) as (λ b. value_at (walk_next round) i ≡ (if b then Some m else None) →
    AreMessages (walk_next round) i (listed (if b then rightward m else nothing ℕ).right ++ answered (if b then active me m chosen else relay me v (Some m) chosen) ms)) [
      | true ↦ λ stays. answered-messages n i me m chosen (walk_next round) ms below rises stays next
      | false ↦ λ leaves. rw (answered-relay me v (Some m) chosen ms) (messages-relay n i (walk_next round) ms below rises leaves next)
    ]
    (value_at-next n i v m third round ms below h there from))
