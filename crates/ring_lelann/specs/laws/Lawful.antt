-- The laws that keep the leader unique, for this algorithm.
use Rattle.std.specs.Prelude.{◌≡◌, ℕ, true, false, List, [], ◌∷◌, ◌++◌, Some, slice_get, refl}
use Rattle.std.proofs.Common.{◌∙◌, sym, ap, append_assoc, subst}
use Rattle.ring_id.specs.declared.side.Side.{Side}
use Rattle.ring_id.specs.declared.side.Side.TheVariants.{Left, Right}
use Rattle.ring_roster.specs.Ring.{IsRing, greatest_of, leftward}
use Rattle.ring_election.specs.Tables.{to_side}
use Rattle.ring_election.specs.Traces.{sent_after, state_after, taken_from}
use Rattle.ring_election.specs.Families.{AllFit}
use Rattle.ring_election.specs.Laws.{Lawful}
use Rattle.ring_election.proofs.Members.{slice_get-append_left}
use Rattle.ring_election.proofs.Rings.{behind, differs_behind, greatest-at_least, greatest-is_in, greatest-leftward, leftward-here}
use Rattle.ring_lelann.specs.LeLann.{lelann_first, lelann_fits, lelann_table}
use Rattle.ring_lelann.specs.laws.Others.{before-last, without}
use Rattle.ring_lelann.specs.laws.Taken.{taken-others, taken-round}
use Rattle.ring_lelann.specs.laws.Traces.{decision_at_home-some, lelann_next-decided, sent_from-left, sent_from-right, state_from-undecided}

-- the own identity is read first
first_sends_fit : (ring : List ℕ) (i me : ℕ) (side : Side) (v : ℕ) → IsRing ring → slice_get ring i ≡ Some me
    → to_side side (lelann_table.first_sends me) ≡ Some v → lelann_fits ring i side 0 v
first_sends_fit ring i me Left v is here sent = cc
first_sends_fit ring i me Right v is here sent =
    subst (λ (l : List ℕ). slice_get l 0 ≡ Some v) (sym (leftward-here ring i me here)) sent

-- all messages to the right are the own identity and a prefix of the others
sends_fit : (ring : List ℕ) (i me : ℕ) (receipts : List (Side × ℕ)) (side : Side) (k v : ℕ) → IsRing ring → slice_get ring i ≡ Some me → AllFit lelann_fits ring i receipts
    → slice_get (sent_after lelann_table me side receipts) k ≡ Some v → lelann_fits ring i side k v
sends_fit ring i me receipts Left k v is here all sent =
    let none : slice_get (sent_after lelann_table me Left receipts) k ≡ slice_get [] k = ap (λ (l : List ℕ). slice_get l k) (sent_from-left (lelann_first me) receipts) in
    cc
sends_fit ring i me receipts Right k v is here all sent =
    let others = taken-others ring i me receipts is here all in
    let passed : sent_after lelann_table me Right receipts ≡ me ∷ without me (taken_from Left receipts) =
    ap (λ (l : List ℕ). me ∷ l) (sent_from-right (lelann_first me) receipts) in
    let whole : (me ∷ without me (taken_from Left receipts)) ++ others.0 ≡ leftward ring i =
    ap (λ (l : List ℕ). me ∷ l) others.1 ∙ sym (leftward-here ring i me here) in
    subst (λ (l : List ℕ). slice_get l k ≡ Some v) whole
    (slice_get-append_left (me ∷ without me (taken_from Left receipts)) others.0 k v
    (subst (λ (l : List ℕ). slice_get l k ≡ Some v) passed sent))

-- when the own identity comes, all the others have come
decides_winner : (ring : List ℕ) (i me : ℕ) (receipts : List (Side × ℕ)) (leader : ℕ) → IsRing ring → slice_get ring i ≡ Some me → AllFit lelann_fits ring i receipts
    → lelann_table.decided (state_after lelann_table me receipts) ≡ Some leader → leader ≡ greatest_of ring
decides_winner ring i me receipts leader is here all decided =
    let home = decision_at_home-some me [] (taken_from Left receipts) leader (sym (state_from-undecided (lelann_first me) receipts refl) ∙ decided) in
    let part = taken-round ring i me receipts here all in
    let whole : home.before ++ me ∷ (home.after ++ part.0) ≡ behind ring i ++ me ∷ [] =
    sym (append_assoc home.before (me ∷ home.after) part.0) ∙ ap (λ (l : List ℕ). l ++ part.0) (sym home.parts) ∙ part.1 in
    let others = before-last me home.before (home.after ++ part.0) (behind ring i) (λ v. differs_behind ring i me v is here) whole in
    home.leads ∙ ap (λ (l : List ℕ). greatest_of (me ∷ l)) others ∙ ap greatest_of (sym (leftward-here ring i me here)) ∙ greatest-leftward ring i is

-- the winner is a member
winner_is_member : (ring : List ℕ) → IsRing ring → (i : ℕ) × (slice_get ring i ≡ Some (greatest_of ring))
winner_is_member ring is = let found = greatest-is_in ring is.some in (found.place, found.there)

-- the algorithm keeps a leader unique
pub lelann_lawful : Lawful false true lelann_table lelann_fits greatest_of
lelann_lawful = record {
  start_undecided = λ me. refl;
  decision_stays = λ me receipts. lelann_next-decided (state_after lelann_table me receipts);
  one_way = λ _ ring i k v none. none;
  first_sends_fit = first_sends_fit;
  sends_fit = sends_fit;
  decides_winner = decides_winner;
  winner_is_member = winner_is_member;
  winner_is_greatest = λ _ ring i v is there. greatest-at_least ring v (record { place = i; there = there });
}
