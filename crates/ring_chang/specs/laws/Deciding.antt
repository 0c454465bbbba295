-- If every sent message was taken, the greatest identity has gone all round the ring and decided.
use Rattle.std.proofs.Common.{◌≡◌, ◌≢◌, ◌<◌, ℕ, List, Some, slice_get, nat_lt, filter, sym, ap, ◌∙◌, subst, arith}
use Rattle.std.proofs.lemmas.Bool.Decides.{nat_tests}
use Rattle.std.proofs.lemmas.Option.{slice_get_within}
use Rattle.ring_id.specs.declared.side.Side.{Side}
use Rattle.ring_id.specs.declared.side.Side.TheVariants.{Left, Right}
use Rattle.ring_roster.specs.Ring.{IsRing, greatest_of}
use Rattle.ring_election.specs.Traces.{sent_after, taken_from}
use Rattle.ring_election.specs.Families.{FamilyFits, HasDecided, IsComplete}
use Rattle.ring_election.specs.Laws.{Deciding}
use Rattle.ring_election.proofs.Families.{goes_round}
use Rattle.ring_election.proofs.Members.{IsIn, in_filter, in_first, in_rest}
use Rattle.ring_election.proofs.Rings.{greatest-at_least, greatest-is_in, same_position}
use Rattle.ring_chang.specs.Chang.{chang_first, chang_fits, chang_table}
use Rattle.ring_chang.specs.laws.Steps.{all_sent, decided_when_back}

-- every node but the greatest itself passes the greatest on
greatest_passes : (ring : List ℕ) (g j me : ℕ) (receipts : List (Side × ℕ)) → IsRing ring → slice_get ring g ≡ Some (greatest_of ring) → slice_get ring j ≡ Some me → j ≢ g
    → IsIn (taken_from Left receipts) (greatest_of ring) → IsIn (sent_after chang_table me Right receipts) (greatest_of ring)
greatest_passes ring g j me receipts is there here other taken =
    let at_most = greatest-at_least ring me (record { place = j; there = here }) in
    let differs : me ≢ greatest_of ring = λ e. other (same_position ring j g (greatest_of ring) is (here ∙ ap (λ (z : ℕ). Some z) e) there) in
    let below : me < greatest_of ring = omega arith in
    subst (λ (l : List ℕ). IsIn l (greatest_of ring)) (sym (all_sent me receipts))
    (in_rest me (filter (nat_lt me) (taken_from Left receipts)) (greatest_of ring) (in_filter (nat_lt me) (taken_from Left receipts) (greatest_of ring) (grind (arith, nat_tests)) taken))

-- the algorithm decides if every message was taken
pub chang_deciding : Deciding chang_table chang_fits
chang_deciding = record { complete_decides = decided }
  where
    decided : (ring : List ℕ) (family : ℕ → List (Side × ℕ)) → IsRing ring → FamilyFits chang_fits ring family → IsComplete chang_table ring family → HasDecided chang_table ring family
    decided ring family is fits complete =
        let member = greatest-is_in ring is.some in
        let best = greatest_of ring in
        let sent : IsIn (sent_after chang_table best Right (family member.place)) best = in_first best _ in
        let back = goes_round chang_table ring family member.place best best complete member.there sent
        (λ j me here other taken. greatest_passes ring member.place j me (family j) is member.there here other taken)
        member.place (slice_get_within ring member.place best member.there) in
        record { position = member.place; me = best; leader = best; there = member.there; decided = decided_when_back (chang_first best) (family member.place) back }
