-- Peterson's election meets the laws that keep a leader unique.
use Rattle.std.specs.Prelude.{◌≡◌, ◌≤◌, ℕ, true, false, List, ◌∷◌, length, Some, slice_get, slice_index}
use Rattle.std.proofs.Common.{refl, sym, ap, ◌∙◌, arith}
use Rattle.std.proofs.lemmas.Option.{get_or_from_slice_get, none-some, slice_get-get_or, slice_get_within}
use Rattle.ring_id.specs.declared.side.Side.{Side}
use Rattle.ring_id.specs.declared.side.Side.TheVariants.{Left, Right}
use Rattle.ring_roster.specs.Ring.{IsRing, left_of}
use Rattle.ring_election.specs.Tables.{to_side}
use Rattle.ring_election.specs.Traces.{sent_after, state_after, taken_from}
use Rattle.ring_election.specs.Families.{AllFit}
use Rattle.ring_election.specs.Laws.{Lawful}
use Rattle.ring_peterson.specs.Peterson.{peterson_decided, peterson_first, peterson_table}
use Rattle.ring_peterson.specs.Rounds.{first_round, identity_of, message_of, peterson_fits, peterson_winner}
use Rattle.ring_peterson.specs.laws.Walk.{walk_last, walk_message}
use Rattle.ring_peterson.specs.laws.Values.{single}
use Rattle.ring_peterson.specs.laws.FirstRound.{IsRound-first, length-first, numbered_rises, value_at-first}
use Rattle.ring_peterson.specs.laws.Shrinks.{IsLastOne, walk_last-alone}
use Rattle.ring_peterson.specs.laws.Reading.{last_round-walk, message_of-walk}
use Rattle.ring_peterson.specs.laws.Receipts.{sent_from-left, sent_from-right, state_from-left}
use Rattle.ring_peterson.specs.laws.Messages.{AreMessages, answered-messages, own_first}
use Rattle.ring_peterson.specs.laws.Choice.{chosen_is_last, decided_self, next-decided}

-- ---- The messages that a node took and sent

-- the messages of the first round are those of the walks
message_of-first : (ring : List ℕ) (i k : ℕ) → message_of (first_round ring) i k ≡ walk_message (first_round ring) i k
message_of-first ring i k = message_of-walk (length ring) (first_round ring) i k (numbered_rises 0 (length ring) ring (omega arith))

-- messages that fit, taken from the left, are those of the left neighbour
pub taken-messages : (ring : List ℕ) (i : ℕ) (receipts : List (Side × ℕ)) → AllFit peterson_fits ring i receipts → AreMessages (first_round ring) (left_of (length ring) i) (taken_from Left receipts)
taken-messages ring i receipts all = record { each = λ k m e. sym (message_of-first ring (left_of (length ring) i) k) ∙ all.each Left k m e }

first_sends_fit : (ring : List ℕ) (i me : ℕ) (side : Side) (m : ℕ) → IsRing ring → slice_get ring i ≡ Some me → to_side side (peterson_table.first_sends me) ≡ Some m → peterson_fits ring i side 0 m
first_sends_fit ring i me Left m is_ring here e = absurd (none-some m e)
first_sends_fit ring i me Right m is_ring here e =
    message_of-first ring i 0 ∙ own_first (length ring) i me (first_round ring) (IsRound-first ring is_ring).rises (value_at-first ring i me here) ∙ e

sends_fit : (ring : List ℕ) (i me : ℕ) (receipts : List (Side × ℕ)) (side : Side) (k m : ℕ) → IsRing ring → slice_get ring i ≡ Some me → AllFit peterson_fits ring i receipts →
    slice_get (sent_after peterson_table me side receipts) k ≡ Some m → peterson_fits ring i side k m
sends_fit ring i me receipts Left k m is_ring here all e =
    absurd (none-some m (sym (ap (λ (l : List ℕ). slice_get l k) (sent_from-left (peterson_first me) receipts)) ∙ e))
sends_fit ring i me receipts Right k m is_ring here all e =
    let sent = answered-messages (length ring) i me me false (first_round ring) (taken_from Left receipts) (slice_get_within ring i me here)
    (IsRound-first ring is_ring).rises (value_at-first ring i me here) (taken-messages ring i receipts all) in
    message_of-first ring i k
    ∙ sent.each k m (sym (ap (λ (l : List ℕ). slice_get (me ∷ l) k) (sent_from-right (peterson_first me) receipts)) ∙ e)

-- ---- The winner

-- the rounds of a ring come to one position
pub ring_last : (ring : List ℕ) → IsRing ring → IsLastOne (length ring) (walk_last (length ring) (first_round ring))
ring_last ring is_ring =
    let some = is_ring.some in
    let size = length-first 0 ring in
    walk_last-alone (length ring) (length ring) (first_round ring) (IsRound-first ring is_ring) (omega arith) (omega arith)

-- the identity of that position is the winner
winner-is : (ring : List ℕ) (p w : ℕ) → walk_last (length ring) (first_round ring) ≡ single p w → peterson_winner ring ≡ slice_index ring p
winner-is ring p w last =
    ap (identity_of ring) (last_round-walk (length ring) (length ring) (first_round ring) (numbered_rises 0 (length ring) ring (omega arith)) ∙ last)

decides_winner : (ring : List ℕ) (i me : ℕ) (receipts : List (Side × ℕ)) (v : ℕ) → IsRing ring → slice_get ring i ≡ Some me → AllFit peterson_fits ring i receipts →
    peterson_decided (state_after peterson_table me receipts) ≡ Some v → v ≡ peterson_winner ring
decides_winner ring i me receipts v is_ring here all e =
    let decided = ap peterson_decided (sym (state_from-left (peterson_first me) receipts)) ∙ e in
    let self = decided_self (peterson_first me) (taken_from Left receipts) v decided in
    let size = length-first 0 ring in
    let last = chosen_is_last (length ring) i me me (length ring) false (first_round ring) (taken_from Left receipts) (IsRound-first ring is_ring) (slice_get_within ring i me here)
    (omega arith) (value_at-first ring i me here) (taken-messages ring i receipts all) (λ never. absurd (cc)) self.0 in
    sym self.1 ∙ sym (get_or_from_slice_get ring i me 0 here) ∙ sym (winner-is ring i last.value last.alone)

winner_is_member : (ring : List ℕ) → IsRing ring → (i : ℕ) × (slice_get ring i ≡ Some (peterson_winner ring))
winner_is_member ring is_ring =
    let last = ring_last ring is_ring in
    (last.position, slice_get-get_or ring last.position 0 last.below ∙ ap (λ (x : ℕ). Some x) (sym (winner-is ring last.position last.value last.alone)))

-- it does not promise the greatest, so the winner may be any member
winner_is_greatest : false ≡ true → (ring : List ℕ) (i v : ℕ) → IsRing ring → slice_get ring i ≡ Some v → v ≤ peterson_winner ring
winner_is_greatest never ring i v is_ring here = absurd (cc)

pub peterson_lawful : Lawful false false peterson_table peterson_fits peterson_winner
peterson_lawful = record {
  start_undecided = λ me. refl;
  decision_stays = λ me receipts side m v h. next-decided (state_after peterson_table me receipts) side m v h;
  one_way = λ two_way ring i k m h. h;
  first_sends_fit = first_sends_fit;
  sends_fit = sends_fit;
  decides_winner = decides_winner;
  winner_is_member = winner_is_member;
  winner_is_greatest = winner_is_greatest;
}
