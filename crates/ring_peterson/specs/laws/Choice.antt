-- The node that is chosen: the one at the position of the last round. It is chosen before it
-- becomes a relay, and no other node ever is.
use Rattle.std.specs.Prelude.{◌≡◌, ◌<◌, ◌≤◌, ◌==◌, ◌||◌, ℕ, zero, suc, Bool, true, false, if◌then◌else◌, nat_lt, List, [], ◌∷◌, length, Option, Some, None}
use Rattle.std.proofs.Common.{inl, inr, refl, sym, ap, ◌∙◌, arith}
use Rattle.std.proofs.lemmas.Bool.{cases_lt, eq-eqb, lt-ltb, or_cases, or_right}
use Rattle.std.proofs.lemmas.Bool.Decides.{nat_tests}
use Rattle.std.proofs.lemmas.Option.{cond_some, none-some}
use Rattle.ring_id.specs.declared.side.Side.{Side}
use Rattle.ring_id.specs.declared.side.Side.TheVariants.{Left, Right}
use Rattle.ring_roster.specs.Ring.{left_of}
use Rattle.ring_peterson.specs.declared.peterson.Mode.TheVariants.{Active, Relay}
use Rattle.ring_peterson.specs.declared.peterson.PetersonState.{PetersonState}
use Rattle.ring_peterson.specs.Peterson.{active_next, is_peak, left_next, peterson_decided, peterson_next, third_next}
use Rattle.ring_peterson.specs.Rounds.{Round, two_of}
use Rattle.ring_peterson.specs.laws.Walk.{two_before, walk_last, walk_next}
use Rattle.ring_peterson.specs.laws.Positions.{value_at}
use Rattle.ring_peterson.specs.laws.Values.{IsRound, IsRound-next, single, stands_alone}
use Rattle.ring_peterson.specs.laws.Shrinks.{last_was_active, length-next_half}
use Rattle.ring_peterson.specs.laws.Receipts.{active, after_left, after_left-relay, relay}
use Rattle.ring_peterson.specs.laws.Messages.{AreMessages, messages_next, takes_last, value_at-next}

-- ---- A decision stays

third-decided : (s : PetersonState) (second m v : ℕ) → peterson_decided s ≡ Some v → peterson_decided (third_next s second m) ≡ Some v
third-decided s second m v h =
    elim (is_peak s.uid1 second m) as (λ b. peterson_decided (if b then record s { uid1 = second; uid2 = None } else record s { mode = Relay }) ≡ Some v) [ true ↦ h | false ↦ h ]

active-decided : (s : PetersonState) (second : Option ℕ) (m v : ℕ) → peterson_decided s ≡ Some v → peterson_decided (active_next s second m) ≡ Some v
active-decided s None m v h =
    elim s.chosen as (λ b. (if b then Some s.me else None) ≡ Some v → (if b || (m == s.uid1) then Some s.me else None) ≡ Some v) [ true ↦ λ e. e | false ↦ λ e. absurd (cc) ] h
active-decided s (Some second) m v h = third-decided s second m v h

-- a decision of a state stays after a receipt
pub next-decided : (s : PetersonState) (side : Side) (m v : ℕ) → peterson_decided s ≡ Some v → peterson_decided (peterson_next s side m) ≡ Some v
next-decided s Left m v h = elim s.mode as (λ mode. peterson_decided (left_next s mode m) ≡ Some v) [ Active ↦ active-decided s s.uid2 m v h | Relay ↦ h ]
next-decided s Right m v h = h

-- ---- A node decides on itself

third-me : (s : PetersonState) (second m : ℕ) → (third_next s second m).me ≡ s.me
third-me s second m = elim (is_peak s.uid1 second m) as (λ b. (if b then record s { uid1 = second; uid2 = None } else record s { mode = Relay }).me ≡ s.me) [ true ↦ refl | false ↦ refl ]

active-me : (s : PetersonState) (second : Option ℕ) (m : ℕ) → (active_next s second m).me ≡ s.me
active-me s None m = refl
active-me s (Some second) m = third-me s second m

pub after_left-me : (s : PetersonState) (ms : List ℕ) → (after_left s ms).me ≡ s.me
after_left-me s [] = refl
after_left-me s (m ∷ ms) =
    after_left-me (left_next s s.mode m) ms ∙ elim s.mode as (λ mode. (left_next s mode m).me ≡ s.me) [ Active ↦ active-me s s.uid2 m | Relay ↦ refl ]

-- a node that has decided is chosen, and has decided on itself
pub decided_self : (s : PetersonState) (ms : List ℕ) (v : ℕ) → peterson_decided (after_left s ms) ≡ Some v → ((after_left s ms).chosen ≡ true) × (s.me ≡ v)
decided_self s ms v h =
    let parts = cond_some (after_left s ms).chosen (after_left s ms).me v h in
    (parts.0, sym (after_left-me s ms) ∙ parts.1)

-- ---- From a round to the next

-- the rounds from this one on come to one position, this one
pub record IsLast (limit i : ℕ) (round : Round) : Type 0 where
  pub value : ℕ
  pub alone : walk_last limit round ≡ single i value

-- the last round from here is the last round from the next one
pub record ComesFromNext (limit : ℕ) (round : Round) : Type 0 where
  pub rest : ℕ
  pub enough : length (walk_next round) ≤ rest
  pub same : walk_last limit round ≡ walk_last rest (walk_next round)

comes_from_next : (limit : ℕ) (round : Round) → 2 ≤ length round → length round ≤ limit → ComesFromNext limit round
comes_from_next zero round two le = absurd (omega arith)
comes_from_next (suc limit) round two le =
    let half = length-next_half round in
    record { rest = limit; enough = omega arith; same = ap (λ (b : Bool). if b then walk_last limit (walk_next round) else round) (lt-ltb 1 (length round) two) }

walk_last-single : (limit i v : ℕ) → walk_last limit (single i v) ≡ single i v
walk_last-single zero i v = refl
walk_last-single (suc limit) i v = refl

-- if a position stays, there are two or more
two_or_more : (round : Round) (i v : ℕ) → value_at (walk_next round) i ≡ Some v → 2 ≤ length round
two_or_more [] i v there = absurd (cc)
two_or_more ((q, u) ∷ []) i v there = absurd (grind (arith, nat_tests))
two_or_more (e ∷ (f ∷ round)) i v there = omega arith

-- a position that is alone is its own predecessor
reads_itself : (round : Round) (i v : ℕ) → length round ≤ 1 → value_at round i ≡ Some v → (two_before round i).last ≡ v
reads_itself [] i v le there = absurd (cc)
reads_itself ((q, u) ∷ []) i v le there =
    let parts = cond_some (q == i) u v there in
    elim (nat_lt q i) as (λ b. (if b then two_of u u else two_of u u).last ≡ v) [ true ↦ parts.1 | false ↦ parts.1 ]
reads_itself (e ∷ (f ∷ round)) i v le there = absurd (omega arith)

-- ---- A chosen node is the last

-- a node that takes its own value is alone
chosen_now : (n i v m limit : ℕ) (c : Bool) (round : Round) (ms : List ℕ) → IsRound n round → i < n → value_at round i ≡ Some v → AreMessages round (left_of n i) (m ∷ ms) →
    (c ≡ true → IsLast limit i round) → (c || (m == v)) ≡ true → IsLast limit i round
chosen_now n i v m limit c round ms h below there from before chosen =
    elim (or_cases c (m == v) chosen) [
      | inl earlier ↦ before earlier
      | inr own ↦
          let same : m ≡ v = grind (arith, nat_tests) in
          let alone = stands_alone n i v round h there (sym same ∙ takes_last n i v m round ms below h.rises there from) in
          record { value = v; alone = ap (walk_last limit) alone ∙ walk_last-single limit i v }
    ]

-- A chosen node is at the position of the last round.
pub chosen_is_last : (n i me v limit : ℕ) (c : Bool) (round : Round) (ms : List ℕ) → IsRound n round → i < n → length round ≤ limit → value_at round i ≡ Some v → AreMessages round (left_of n i) ms →
    (c ≡ true → IsLast limit i round) → (after_left (active me v c) ms).chosen ≡ true → IsLast limit i round
chosen_is_last n i me v limit c round [] h below le there from before chosen = before chosen
chosen_is_last n i me v limit c round (m ∷ []) h below le there from before chosen = chosen_now n i v m limit c round [] h below there from before chosen
chosen_is_last n i me v limit c round (m ∷ (third ∷ ms)) h below le there from before chosen =
    let now = chosen_now n i v m limit c round (third ∷ ms) h below there from before in
    elim (is_peak v m third) as (λ b. value_at (walk_next round) i ≡ (if b then Some m else None) →
    (after_left (if b then active me m (c || (m == v)) else relay me v (Some m) (c || (m == v))) ms).chosen ≡ true → IsLast limit i round) [
      | true ↦ λ stays later.
          let next = comes_from_next limit round (two_or_more round i m stays) le in
          let last = chosen_is_last n i me m next.rest (c || (m == v)) (walk_next round) ms (IsRound-next n round h) below next.enough stays (messages_next round (left_of n i) m third ms from)
          (λ already. let l = now already in record { value = l.value; alone = sym next.same ∙ l.alone }) later in
          record { value = last.value; alone = next.same ∙ last.alone }
      | false ↦ λ leaves later. now (ap (λ (s : PetersonState). s.chosen) (sym (after_left-relay me v (Some m) (c || (m == v)) ms)) ∙ later)
    ]
    (value_at-next n i v m third round ms below h.rises there from) chosen

-- ---- The last node is chosen

-- the position of the last round leaves a round only if it is alone in it
leaves_alone : (i v w limit : ℕ) (round : Round) → length round ≤ limit → value_at round i ≡ Some v → walk_last limit round ≡ single i w → value_at (walk_next round) i ≡ None → (two_before round i).last ≡ v
leaves_alone i v w limit round le there last leaves =
    elim (cases_lt 1 (length round)) [
      | inl two ↦
          let next = comes_from_next limit round two le in
          let active_then = last_was_active next.rest i w (walk_next round) (sym next.same ∙ last) in
          absurd (none-some active_then.0 (sym leaves ∙ active_then.1))
      | inr one ↦ reads_itself round i v one there
    ]

-- The node at the position of the last round becomes a relay only when it is chosen.
pub last_is_chosen : (n i me v w limit : ℕ) (c : Bool) (round : Round) (ms : List ℕ) → IsRound n round → i < n → length round ≤ limit → value_at round i ≡ Some v → AreMessages round (left_of n i) ms →
    walk_last limit round ≡ single i w → (after_left (active me v c) ms).mode ≡ Relay → (after_left (active me v c) ms).chosen ≡ true
last_is_chosen n i me v w limit c round [] h below le there from last relays = absurd (cc)
last_is_chosen n i me v w limit c round (m ∷ []) h below le there from last relays = absurd (cc)
last_is_chosen n i me v w limit c round (m ∷ (third ∷ ms)) h below le there from last relays =
    elim (is_peak v m third) as (λ b. value_at (walk_next round) i ≡ (if b then Some m else None) →
    (after_left (if b then active me m (c || (m == v)) else relay me v (Some m) (c || (m == v))) ms).mode ≡ Relay →
    (after_left (if b then active me m (c || (m == v)) else relay me v (Some m) (c || (m == v))) ms).chosen ≡ true) [
      | true ↦ λ stays still.
          let next = comes_from_next limit round (two_or_more round i m stays) le in
          last_is_chosen n i me m w next.rest (c || (m == v)) (walk_next round) ms (IsRound-next n round h) below next.enough stays (messages_next round (left_of n i) m third ms from) (sym next.same ∙ last) still
      | false ↦ λ leaves still.
          let own : m ≡ v = takes_last n i v m round (third ∷ ms) below h.rises there from ∙ leaves_alone i v w limit round le there last leaves in
          rw (after_left-relay me v (Some m) (c || (m == v)) ms) (or_right c (m == v) (eq-eqb m v own))
    ]
    (value_at-next n i v m third round ms below h.rises there from) relays
