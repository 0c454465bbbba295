-- The sends and the decision of a node of this algorithm after a list of receipts. They depend only
-- on what it took from the left.
use Rattle.std.proofs.Common.{◌≡◌, ◌==◌, ◌⊎◌, ◌++◌, ℕ, true, false, if◌then◌else◌, List, [], ◌∷◌, Some, nat_lt, filter, refl, ap, ◌∙◌, inl, inr, arith, zero}
use Rattle.std.proofs.lemmas.Bool.Decides.{nat_tests}
use Rattle.ring_id.specs.declared.side.Side.{Side}
use Rattle.ring_id.specs.declared.side.Side.TheVariants.{Left, Right}
use Rattle.ring_election.specs.Tables.{nothing, rightward, to_side}
use Rattle.ring_election.specs.Traces.{listed, sent_after, sent_from, state_from, taken_from}
use Rattle.ring_election.proofs.Members.{IsIn, in_cons_cases, in_rest}
use Rattle.ring_chang.specs.declared.chang.ChangState.{ChangState}
use Rattle.ring_chang.specs.Chang.{chang_first, chang_next, chang_table}

-- a node keeps its identity at a step
next_me : (s : ChangState) (side : Side) (v : ℕ) → (chang_next s side v).me ≡ s.me
next_me s Left v = elim (v == s.me) as (λ b. (if b then record s { decided = Some s.me } else s).me ≡ s.me) [ true ↦ refl | false ↦ refl ]
next_me s Right v = refl

-- a node keeps its identity
pub state_me : (s : ChangState) (receipts : List (Side × ℕ)) → (state_from chang_table s receipts).me ≡ s.me
state_me s [] = refl
state_me s ((side, v) ∷ rs) = state_me (chang_next s side v) rs ∙ next_me s side v

-- nothing is sent to the left
pub sent_to_left : (s : ChangState) (receipts : List (Side × ℕ)) → sent_from chang_table Left s receipts ≡ []
sent_to_left s [] = refl
sent_to_left s ((Left, v) ∷ rs) =
    let rest = sent_to_left (chang_next s Left v) rs in
    elim (nat_lt s.me v) as (λ b. listed (to_side Left (if b then rightward v else nothing ℕ)) ++ sent_from chang_table Left (chang_next s Left v) rs ≡ [])
    [ true ↦ rest | false ↦ rest ]
sent_to_left s ((Right, v) ∷ rs) = sent_to_left s rs

-- the messages to the right are those taken from the left that are greater
pub sent_to_right : (s : ChangState) (receipts : List (Side × ℕ)) → sent_from chang_table Right s receipts ≡ filter (nat_lt s.me) (taken_from Left receipts)
sent_to_right s [] = refl
sent_to_right s ((Left, v) ∷ rs) =
    let rest : sent_from chang_table Right (chang_next s Left v) rs ≡ filter (nat_lt s.me) (taken_from Left rs) =
    sent_to_right (chang_next s Left v) rs ∙ ap (λ (n : ℕ). filter (nat_lt n) (taken_from Left rs)) (next_me s Left v) in
    elim (nat_lt s.me v) as (λ b. listed (to_side Right (if b then rightward v else nothing ℕ)) ++ sent_from chang_table Right (chang_next s Left v) rs ≡ if b then v ∷ filter (nat_lt s.me) (taken_from Left rs) else filter (nat_lt s.me) (taken_from Left rs))
    [ true ↦ ap (λ (l : List ℕ). v ∷ l) rest | false ↦ rest ]
sent_to_right s ((Right, v) ∷ rs) = sent_to_right s rs

-- all messages to the right: the own identity, then those taken from the left that are greater
pub all_sent : (me : ℕ) (receipts : List (Side × ℕ)) → sent_after chang_table me Right receipts ≡ me ∷ filter (nat_lt me) (taken_from Left receipts)
all_sent me receipts = ap (λ (l : List ℕ). me ∷ l) (sent_to_right (chang_first me) receipts)

-- a decision after receipts was made before them, or it is the node itself and its identity came
-- back
pub decided_from : (s : ChangState) (receipts : List (Side × ℕ)) (v : ℕ) → (state_from chang_table s receipts).decided ≡ Some v
    → (s.decided ≡ Some v) ⊎ ((v ≡ s.me) × IsIn (taken_from Left receipts) s.me)
decided_from s [] v h = inl h
decided_from s ((Left, m) ∷ rs) v h =
    elim (m == s.me) as (λ b. (m == s.me) ≡ b → (state_from chang_table (if b then record s { decided = Some s.me } else s) rs).decided ≡ Some v → (s.decided ≡ Some v) ⊎ ((v ≡ s.me) × IsIn (m ∷ taken_from Left rs) s.me)) [
      | true ↦ λ e k. elim (decided_from (record s { decided = Some s.me }) rs v k) [
        | inl d ↦ inr (cc, record { place = zero; there = ap (λ (z : ℕ). Some z) (grind (arith, nat_tests)) })
        | inr r ↦ inr (r.0, in_rest m (taken_from Left rs) s.me r.1)
      ]
      | false ↦ λ e k. elim (decided_from s rs v k) [ inl d ↦ inl d | inr r ↦ inr (r.0, in_rest m (taken_from Left rs) s.me r.1) ]
    ]
    refl h
decided_from s ((Right, m) ∷ rs) v h = decided_from s rs v h

-- a node that has decided on itself stays decided
stays : (s : ChangState) (receipts : List (Side × ℕ)) → s.decided ≡ Some s.me → (state_from chang_table s receipts).decided ≡ Some s.me
stays s [] h = h
stays s ((Left, m) ∷ rs) h =
    elim (m == s.me) as (λ b. (state_from chang_table (if b then record s { decided = Some s.me } else s) rs).decided ≡ Some s.me)
    [ true ↦ stays (record s { decided = Some s.me }) rs refl | false ↦ stays s rs h ]
stays s ((Right, m) ∷ rs) h = stays s rs h

-- a node whose own identity came back has decided on itself
pub decided_when_back : (s : ChangState) (receipts : List (Side × ℕ)) → IsIn (taken_from Left receipts) s.me → (state_from chang_table s receipts).decided ≡ Some s.me
decided_when_back s [] h = let h0 = h.there in cc
decided_when_back s ((Left, m) ∷ rs) h =
    elim (m == s.me) as (λ b. (m == s.me) ≡ b → (state_from chang_table (if b then record s { decided = Some s.me } else s) rs).decided ≡ Some s.me) [
      | true ↦ λ e. stays (record s { decided = Some s.me }) rs refl
      | false ↦ λ e. elim (in_cons_cases m (taken_from Left rs) s.me h) [ inl same ↦ absurd (grind (arith, nat_tests)) | inr r ↦ decided_when_back s rs r ]
    ]
    refl
decided_when_back s ((Right, m) ∷ rs) h = decided_when_back s rs h
