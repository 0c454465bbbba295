-- The laws that keep the leader unique, for this algorithm.
use Rattle.std.proofs.Common.{◌≡◌, ◌==◌, if◌then◌else◌, ◌++◌, ℕ, true, false, List, [], ◌∷◌, Some, None, slice_get, nat_lt, filter, refl, sym, ap, ◌∙◌, subst, inl, inr, arith}
use Rattle.std.proofs.lemmas.List.Elements.{filter-append}
use Rattle.ring_id.specs.declared.side.Side.{Side}
use Rattle.ring_id.specs.declared.side.Side.TheVariants.{Left, Right}
use Rattle.ring_roster.specs.Ring.{IsRing, greatest_of, leftward}
use Rattle.ring_election.specs.Tables.{rightward, to_side}
use Rattle.ring_election.specs.Traces.{sent_after, state_after, taken_from}
use Rattle.ring_election.specs.Families.{AllFit}
use Rattle.ring_election.specs.Laws.{Lawful}
use Rattle.ring_election.proofs.Members.{IsIn, first_part, in_append_left, in_cons_cases, slice_get-append_left}
use Rattle.ring_election.proofs.Rings.{behind, differs_behind, greatest-at_least, greatest-is_in, greatest-unique, leftward-here, leftward-left_of, leftward_from_member}
use Rattle.ring_chang.specs.declared.chang.ChangState.{ChangState}
use Rattle.ring_chang.specs.Chang.{chang_first, chang_fits, chang_next, chang_table, records}
use Rattle.ring_chang.specs.laws.Records.{last_record, records_above-filter, records_above-push}
use Rattle.ring_chang.specs.laws.Steps.{all_sent, decided_from, sent_to_left, state_me}

-- messages that fit from the left are a prefix of the records of the others and then the own
-- identity
pub taken_first_part : (ring : List ℕ) (i me : ℕ) (receipts : List (Side × ℕ)) → slice_get ring i ≡ Some me → AllFit chang_fits ring i receipts
    → (rest : List ℕ) × (taken_from Left receipts ++ rest ≡ records (behind ring i ++ me ∷ []))
taken_first_part ring i me receipts here all =
    first_part (taken_from Left receipts) (records (behind ring i ++ me ∷ []))
    (λ k m taken. subst (λ (l : List ℕ). slice_get (records l) k ≡ Some m) (leftward-left_of ring i me here) (all.each Left k m taken))

-- the records read from a position on are its own identity and then those records that its left
-- neighbour sends and that exceed it
records_here : (ring : List ℕ) (i me : ℕ) → slice_get ring i ≡ Some me → records (leftward ring i) ≡ me ∷ filter (nat_lt me) (records (behind ring i ++ me ∷ []))
records_here ring i me here =
    ap records (leftward-here ring i me here)
    ∙ ap (λ (l : List ℕ). me ∷ l) (sym (records_above-push me (behind ring i) me (omega arith)) ∙ records_above-filter me (behind ring i ++ me ∷ []))

-- the messages that a node has sent to the right are a prefix of those records
sent_fits : (ring : List ℕ) (i me : ℕ) (receipts : List (Side × ℕ)) (k m : ℕ) → slice_get ring i ≡ Some me → AllFit chang_fits ring i receipts
    → slice_get (sent_after chang_table me Right receipts) k ≡ Some m → slice_get (records (leftward ring i)) k ≡ Some m
sent_fits ring i me receipts k m here all sent =
    let part = taken_first_part ring i me receipts here all in
    let passed : filter (nat_lt me) (taken_from Left receipts) ++ filter (nat_lt me) part.0 ≡ filter (nat_lt me) (records (behind ring i ++ me ∷ [])) =
    sym (filter-append (nat_lt me) (taken_from Left receipts) part.0) ∙ ap (filter (nat_lt me)) part.1 in
    let whole : (me ∷ filter (nat_lt me) (taken_from Left receipts)) ++ filter (nat_lt me) part.0 ≡ records (leftward ring i) =
    ap (λ (l : List ℕ). me ∷ l) passed ∙ sym (records_here ring i me here) in
    subst (λ (l : List ℕ). slice_get l k ≡ Some m) whole
    (slice_get-append_left (me ∷ filter (nat_lt me) (taken_from Left receipts)) (filter (nat_lt me) part.0) k m
    (subst (λ (l : List ℕ). slice_get l k ≡ Some m) (all_sent me receipts) sent))

-- a node whose own identity came back is the greatest
back_is_greatest : (ring : List ℕ) (i me : ℕ) (receipts : List (Side × ℕ)) → IsRing ring → slice_get ring i ≡ Some me → AllFit chang_fits ring i receipts
    → IsIn (taken_from Left receipts) me → me ≡ greatest_of ring
back_is_greatest ring i me receipts is here all back =
    let part = taken_first_part ring i me receipts here all in
    let record_of : IsIn (records (behind ring i ++ me ∷ [])) me = subst (λ (l : List ℕ). IsIn l me) part.1 (in_append_left (taken_from Left receipts) part.0 me back) in
    let above = last_record me (behind ring i) record_of (λ w there. differs_behind ring i me w is here there) in
    greatest-unique ring me (record { place = i; there = here })
    (λ w member. elim (in_cons_cases me (behind ring i) w (subst (λ (l : List ℕ). IsIn l w) (leftward-here ring i me here) (leftward_from_member ring i w member)))
    [ inl same ↦ omega arith | inr there ↦ let less = above w there in omega arith ])

-- a node that has decided has decided on itself, and its own identity has come back
decided_me : (me : ℕ) (receipts : List (Side × ℕ)) (v : ℕ) → (state_after chang_table me receipts).decided ≡ Some v → (v ≡ me) × IsIn (taken_from Left receipts) me
decided_me me receipts v h = elim (decided_from (chang_first me) receipts v h) [ inl never ↦ cc | inr back ↦ back ]

-- a decision stays at the next receipt
stays_decided : (me : ℕ) (receipts : List (Side × ℕ)) (side : Side) (m v : ℕ) → (state_after chang_table me receipts).decided ≡ Some v
    → (chang_next (state_after chang_table me receipts) side m).decided ≡ Some v
stays_decided me receipts side m v decided = step side
  where
    s : ChangState
    s = state_after chang_table me receipts

    step : (side : Side) → (chang_next s side m).decided ≡ Some v
    step Right = decided
    step Left =
        elim (m == s.me) as (λ b. (if b then record s { decided = Some s.me } else s).decided ≡ Some v)
        [ true ↦ ap (λ (z : ℕ). Some z) (state_me (chang_first me) receipts ∙ sym (decided_me me receipts v decided).0) | false ↦ decided ]

-- a node that starts has decided nothing
start_undecided : (me : ℕ) → chang_table.decided (chang_table.first me) ≡ None
start_undecided me = refl

-- the messages of a node that starts fit
first_fits : (ring : List ℕ) (i me : ℕ) (side : Side) (m : ℕ) → IsRing ring → slice_get ring i ≡ Some me → to_side side (rightward me) ≡ Some m → chang_fits ring i side 0 m
first_fits ring i me Left m is here sent = let nothing_sent = sent in cc
first_fits ring i me Right m is here sent = ap (λ (l : List ℕ). slice_get (records l) 0) (leftward-here ring i me here) ∙ sent

-- the messages that a node sends to either side fit
all_sent_fits : (ring : List ℕ) (i me : ℕ) (receipts : List (Side × ℕ)) (side : Side) (k m : ℕ) → IsRing ring → slice_get ring i ≡ Some me
    → AllFit chang_fits ring i receipts → slice_get (sent_after chang_table me side receipts) k ≡ Some m → chang_fits ring i side k m
all_sent_fits ring i me receipts Left k m is here all sent =
    let nothing_sent : slice_get {X = ℕ} [] k ≡ Some m = subst (λ (l : List ℕ). slice_get l k ≡ Some m) (sent_to_left (chang_first me) receipts) sent in
    cc
all_sent_fits ring i me receipts Right k m is here all sent = sent_fits ring i me receipts k m here all sent

-- the algorithm is lawful
pub chang_lawful : Lawful false true chang_table chang_fits greatest_of
chang_lawful = record {
  start_undecided = start_undecided;
  decision_stays = stays_decided;
  one_way = λ h ring i k m fits. fits;
  first_sends_fit = first_fits;
  sends_fit = all_sent_fits;
  decides_winner = λ ring i me receipts v is here all decided.
      let back = decided_me me receipts v decided in
      back.0 ∙ back_is_greatest ring i me receipts is here all back.1;
  winner_is_member = λ ring is. let there = greatest-is_in ring is.some in (there.place, there.there);
  winner_is_greatest = λ h ring i v is here. greatest-at_least ring v (record { place = i; there = here });
}
