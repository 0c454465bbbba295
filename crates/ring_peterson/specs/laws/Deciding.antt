-- If every sent message was taken, a ring under Peterson's election is decided. A node sends one
-- message for each that it takes, and one more until it becomes a relay. So every node is a relay,
-- and the node at the position of the last round was chosen.
use Rattle.std.specs.Prelude.{◌≡◌, ◌+◌, ◌≤◌, ℕ, Bool, true, false, if◌then◌else◌, List, [], ◌∷◌, length, Option, Some, None, slice_get}
use Rattle.std.proofs.Common.{refl, sym, ap, ◌∙◌, arith, get_or, length-append}
use Rattle.std.proofs.lemmas.Option.{slice_get-get_or, slice_get_within}
use Rattle.ring_id.specs.declared.side.Side.{Side}
use Rattle.ring_id.specs.declared.side.Side.TheVariants.{Left, Right}
use Rattle.ring_roster.specs.Ring.{IsRing}
use Rattle.ring_election.specs.Tables.{nothing, rightward}
use Rattle.ring_election.specs.Traces.{listed, sent_after, taken_from}
use Rattle.ring_election.specs.Families.{FamilyFits, HasDecided, IsComplete}
use Rattle.ring_election.specs.Laws.{Deciding}
use Rattle.ring_election.proofs.Families.{taken-right_of}
use Rattle.ring_election.proofs.Rings.{around}
use Rattle.ring_peterson.specs.declared.peterson.Mode.{Mode}
use Rattle.ring_peterson.specs.declared.peterson.Mode.TheVariants.{Active, Relay}
use Rattle.ring_peterson.specs.declared.peterson.PetersonState.{PetersonState}
use Rattle.ring_peterson.specs.Peterson.{active_next, active_sends, is_peak, left_next, left_sends, peterson_decided, peterson_first, peterson_table}
use Rattle.ring_peterson.specs.Rounds.{first_round, peterson_fits}
use Rattle.ring_peterson.specs.laws.FirstRound.{IsRound-first, length-first, value_at-first}
use Rattle.ring_peterson.specs.laws.Receipts.{after_left, answered, sent_from-right, state_from-left}
use Rattle.ring_peterson.specs.laws.Choice.{after_left-me, last_is_chosen}
use Rattle.ring_peterson.specs.laws.Lawful.{ring_last, taken-messages}

-- how many more messages a node has sent than taken
abbrev lead : Mode → ℕ
lead Active = 1
lead Relay = 0

-- an active node answers a message, or becomes a relay
active-lead : (s : PetersonState) (second : Option ℕ) (m : ℕ) → s.mode ≡ Active → length (listed (active_sends s second m).right) + 1 ≡ 1 + lead (active_next s second m).mode
active-lead s None m is = ap (λ (mode : Mode). 1 + lead mode) (sym is)
active-lead s (Some second) m is =
    elim (is_peak s.uid1 second m) as (λ b. length (listed (if b then rightward second else nothing ℕ).right) + 1 ≡ 1 + lead (if b then record s { uid1 = second; uid2 = None } else record s { mode = Relay }).mode) [
      | true ↦ ap (λ (mode : Mode). 1 + lead mode) (sym is)
      | false ↦ refl
    ]

left-lead : (s : PetersonState) (m : ℕ) → length (listed (left_sends s s.mode m).right) + lead s.mode ≡ 1 + lead (left_next s s.mode m).mode
left-lead s m =
    elim s.mode as (λ mode. s.mode ≡ mode → length (listed (left_sends s mode m).right) + lead mode ≡ 1 + lead (left_next s mode m).mode) [
      | Active ↦ λ is. active-lead s s.uid2 m is
      | Relay ↦ λ is. ap (λ (mode : Mode). 1 + lead mode) (sym is)
    ] refl

answered-lead : (s : PetersonState) (ms : List ℕ) → length (answered s ms) + lead s.mode ≡ length ms + lead (after_left s ms).mode
answered-lead s [] = refl
answered-lead s (m ∷ ms) =
    let now = left-lead s m in
    let later = answered-lead (left_next s s.mode m) ms in
    omega (arith, length-append (listed (left_sends s s.mode m).right) (answered (left_next s s.mode m) ms))

-- the number of messages that a node has sent
length-sent : (me : ℕ) (receipts : List (Side × ℕ)) →
    length (sent_after peterson_table me Right receipts) ≡ length (taken_from Left receipts) + lead (after_left (peterson_first me) (taken_from Left receipts)).mode
length-sent me receipts =
    let total = answered-lead (peterson_first me) (taken_from Left receipts) in
    let same = ap (length {A = ℕ}) (sent_from-right (peterson_first me) receipts) in
    omega arith

-- On a ring with every message taken no node is active. An active node would have sent more
-- messages than it took, but the next node took each of them, all round.
none_active : (ring : List ℕ) (family : ℕ → List (Side × ℕ)) (p me : ℕ) → IsComplete peterson_table ring family → slice_get ring p ≡ Some me →
    (after_left (peterson_first me) (taken_from Left (family p))).mode ≡ Active → ⊥
none_active ring family p me complete here is =
    let more : ℕ → Type 0 = λ j. length (taken_from Left (family p)) + 1 ≤ length (taken_from Left (family j)) in
    let below = slice_get_within ring p me here in
    let sent = length-sent me (family p) in
    let own : lead (after_left (peterson_first me) (taken_from Left (family p))).mode ≡ 1 = ap lead is in
    let next = ap (length {A = ℕ}) (taken-right_of peterson_table ring family p me complete here) in
    let impossible = around (length ring) p more below (omega arith)
    (λ j j_below other h.
    let neighbour_sent = length-sent (get_or ring j 0) (family j) in
    let neighbour_next = ap (length {A = ℕ}) (taken-right_of peterson_table ring family j (get_or ring j 0) complete (slice_get-get_or ring j 0 j_below)) in
    omega arith) p below in
    omega arith

all_relay : (ring : List ℕ) (family : ℕ → List (Side × ℕ)) (p me : ℕ) → IsComplete peterson_table ring family → slice_get ring p ≡ Some me →
    (after_left (peterson_first me) (taken_from Left (family p))).mode ≡ Relay
all_relay ring family p me complete here =
    elim (after_left (peterson_first me) (taken_from Left (family p))).mode as (λ mode. (after_left (peterson_first me) (taken_from Left (family p))).mode ≡ mode → mode ≡ Relay) [
      | Active ↦ λ is. absurd (none_active ring family p me complete here is)
      | Relay ↦ λ is. refl
    ] refl

-- a chosen node decides on itself
decided-chosen : (s : PetersonState) (ms : List ℕ) → (after_left s ms).chosen ≡ true → peterson_decided (after_left s ms) ≡ Some s.me
decided-chosen s ms chosen =
    ap (λ (b : Bool). if b then Some (after_left s ms).me else None) chosen ∙ ap (λ (x : ℕ). Some x) (after_left-me s ms)

complete_decides : (ring : List ℕ) (family : ℕ → List (Side × ℕ)) → IsRing ring → FamilyFits peterson_fits ring family → IsComplete peterson_table ring family → HasDecided peterson_table ring family
complete_decides ring family is_ring fits complete =
    let last = ring_last ring is_ring in
    let p = last.position in
    let me = get_or ring p 0 in
    let here = slice_get-get_or ring p 0 last.below in
    let size = length-first 0 ring in
    let taken = taken_from Left (family p) in
    let chosen = last_is_chosen (length ring) p me me last.value (length ring) false (first_round ring) taken (IsRound-first ring is_ring) last.below (omega arith)
    (value_at-first ring p me here) (taken-messages ring p (family p) (fits.at p last.below)) last.alone (all_relay ring family p me complete here) in
    record {
      position = p;
      me = me;
      leader = me;
      there = here;
      decided = ap peterson_decided (state_from-left (peterson_first me) (family p)) ∙ decided-chosen (peterson_first me) taken chosen;
    }

pub peterson_deciding : Deciding peterson_table peterson_fits
peterson_deciding = record { complete_decides = complete_decides }
