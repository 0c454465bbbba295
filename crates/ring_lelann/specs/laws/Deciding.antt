-- If every sent message was taken, this algorithm has decided.
use Rattle.std.specs.Prelude.{◌≢◌, ℕ, List, [], Some, refl}
use Rattle.std.proofs.Common.{◌≡◌, ◌∙◌, sym, ap, get_or, slice_get, subst}
use Rattle.std.proofs.lemmas.Option.{slice_get-get_or, slice_get_within}
use Rattle.ring_id.specs.declared.side.Side.{Side}
use Rattle.ring_id.specs.declared.side.Side.TheVariants.{Left, Right}
use Rattle.ring_roster.specs.Ring.{IsRing}
use Rattle.ring_election.specs.Traces.{sent_after, sent_from, taken_from}
use Rattle.ring_election.specs.Families.{FamilyFits, HasDecided, IsComplete}
use Rattle.ring_election.specs.Laws.{Deciding}
use Rattle.ring_election.proofs.Families.{goes_round}
use Rattle.ring_election.proofs.Members.{IsIn, in_first, in_rest}
use Rattle.ring_election.proofs.Rings.{same_position}
use Rattle.ring_lelann.specs.LeLann.{lelann_first, lelann_fits, lelann_table}
use Rattle.ring_lelann.specs.laws.Others.{in_without}
use Rattle.ring_lelann.specs.laws.Traces.{decision_at_home-home, sent_from-right, state_from-undecided}

-- every other node passes on an identity that came from the left
passes_on : (me v : ℕ) (receipts : List (Side × ℕ)) → v ≢ me → IsIn (taken_from Left receipts) v → IsIn (sent_after lelann_table me Right receipts) v
passes_on me v receipts differs came =
    in_rest me (sent_from lelann_table Right (lelann_first me) receipts) v
    (subst (λ (l : List ℕ). IsIn l v) (sym (sent_from-right (lelann_first me) receipts)) (in_without me v (taken_from Left receipts) differs came))

-- the identity of each position goes all the way round and comes home
pub comes_home : (ring : List ℕ) (family : ℕ → List (Side × ℕ)) (i me : ℕ) → IsRing ring → IsComplete lelann_table ring family → slice_get ring i ≡ Some me
    → IsIn (taken_from Left (family i)) me
comes_home ring family i me is complete there =
    goes_round lelann_table ring family i me me complete there (in_first me (sent_from lelann_table Right (lelann_first me) (family i)))
    (λ j sender at elsewhere came.
    passes_on sender me (family j)
    (λ same. elsewhere (same_position ring j i me is (at ∙ ap (λ (v : ℕ). Some v) (sym same)) there))
    came)
    i (slice_get_within ring i me there)

-- the identity of the first position comes home, and that position decides
complete_decides : (ring : List ℕ) (family : ℕ → List (Side × ℕ)) → IsRing ring → FamilyFits lelann_fits ring family → IsComplete lelann_table ring family
    → HasDecided lelann_table ring family
complete_decides ring family is fit complete =
    let me = get_or ring 0 0 in
    let there = slice_get-get_or ring 0 0 is.some in
    let home = comes_home ring family 0 me is complete there in
    let decision = decision_at_home-home me [] (taken_from Left (family 0)) home in
    record {
      position = 0;
      me = me;
      leader = decision.0;
      there = there;
      decided = state_from-undecided (lelann_first me) (family 0) refl ∙ decision.1;
    }

-- the algorithm decides
pub lelann_deciding : Deciding lelann_table lelann_fits
lelann_deciding = record { complete_decides = complete_decides }
