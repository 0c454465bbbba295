-- The sends and the decision of a node, given by the identities that it took from the left.
use Rattle.std.specs.Prelude.{◌≡◌, ◌==◌, ℕ, zero, suc, true, false, not, if◌then◌else◌, List, [], ◌∷◌, ◌++◌, Option, Some, None, slice_get, refl}
use Rattle.std.proofs.Common.{sym, ap, ◌∙◌, append_assoc, arith}
use Rattle.std.proofs.lemmas.Bool.Decides.{nat_tests}
use Rattle.std.proofs.lemmas.List.{append-nil}
use Rattle.ring_id.specs.declared.side.Side.{Side}
use Rattle.ring_id.specs.declared.side.Side.TheVariants.{Left, Right}
use Rattle.ring_roster.specs.Ring.{greatest_of}
use Rattle.ring_election.specs.Tables.{nothing, rightward, to_side}
use Rattle.ring_election.specs.Traces.{listed, sent_from, state_from, taken_from}
use Rattle.ring_election.proofs.Members.{IsIn}
use Rattle.ring_lelann.specs.LeLann.{Knowledge, lelann_next, lelann_table, with_decision, with_seen}
use Rattle.ring_lelann.specs.laws.Others.{without}

-- the messages to the right are those that came from the left, without the own identity
pub sent_from-right : (s : Knowledge) (rs : List (Side × ℕ)) → sent_from lelann_table Right s rs ≡ without s.me (taken_from Left rs)
sent_from-right s [] = refl
sent_from-right s ((Left, v) ∷ rs) =
    elim (v == s.me) as (λ b. listed (to_side Right (if b then nothing ℕ else rightward v)) ++ sent_from lelann_table Right (if b then with_decision s else with_seen s v) rs ≡ if not b then v ∷ without s.me (taken_from Left rs) else without s.me (taken_from Left rs)) [
      | true ↦ sent_from-right (with_decision s) rs
      | false ↦ ap (λ (vs : List ℕ). v ∷ vs) (sent_from-right (with_seen s v) rs)
    ]
sent_from-right s ((Right, v) ∷ rs) = sent_from-right s rs

-- nothing goes to the left
pub sent_from-left : (s : Knowledge) (rs : List (Side × ℕ)) → sent_from lelann_table Left s rs ≡ []
sent_from-left s [] = refl
sent_from-left s ((Left, v) ∷ rs) =
    elim (v == s.me) as (λ b. listed (to_side Left (if b then nothing ℕ else rightward v)) ++ sent_from lelann_table Left (if b then with_decision s else with_seen s v) rs ≡ []) [
      | true ↦ sent_from-left (with_decision s) rs
      | false ↦ sent_from-left (with_seen s v) rs
    ]
sent_from-left s ((Right, v) ∷ rs) = sent_from-left s rs

-- a decision stays at each receipt
pub lelann_next-decided : (s : Knowledge) (side : Side) (v leader : ℕ) → s.decided ≡ Some leader → (lelann_next s side v).decided ≡ Some leader
lelann_next-decided s Left v leader is =
    elim (v == s.me) as (λ b. (if b then with_decision s else with_seen s v).decided ≡ Some leader) [ true ↦ rw is refl | false ↦ is ]
lelann_next-decided s Right v leader is = is

-- a decision stays over all receipts
pub state_from-decided : (s : Knowledge) (rs : List (Side × ℕ)) (leader : ℕ) → s.decided ≡ Some leader → (state_from lelann_table s rs).decided ≡ Some leader
state_from-decided s [] leader is = is
state_from-decided s (r ∷ rs) leader is =
    state_from-decided (lelann_next s r.0 r.1) rs leader (lelann_next-decided s r.0 r.1 leader is)

-- the decision when the own identity comes first, with these seen before: the greatest of all that
-- came until then
abbrev pub decision_at_home : ℕ → List ℕ → List ℕ → Option ℕ
decision_at_home me seen [] = None
decision_at_home me seen (v ∷ vs) =
    if v == me then Some (greatest_of (me ∷ seen)) else decision_at_home me (seen ++ v ∷ []) vs

-- a node that hasn't decided decides when its own identity comes
pub state_from-undecided : (s : Knowledge) (rs : List (Side × ℕ)) → s.decided ≡ None → (state_from lelann_table s rs).decided ≡ decision_at_home s.me s.seen (taken_from Left rs)
state_from-undecided s [] is = is
state_from-undecided s ((Left, v) ∷ rs) is =
    elim (v == s.me) as (λ b. (state_from lelann_table (if b then with_decision s else with_seen s v) rs).decided ≡ if b then Some (greatest_of (s.me ∷ s.seen)) else decision_at_home s.me (s.seen ++ v ∷ []) (taken_from Left rs)) [
      | true ↦ state_from-decided (with_decision s) rs (greatest_of (s.me ∷ s.seen)) (rw is refl)
      | false ↦ state_from-undecided (with_seen s v) rs is
    ]
state_from-undecided s ((Right, v) ∷ rs) is = state_from-undecided s rs is

-- the own identity is among these, and the leader is the greatest of it and of those before it
pub record IsHome (me : ℕ) (seen vs : List ℕ) (leader : ℕ) : Type 0 where
  pub before : List ℕ
  pub after : List ℕ
  pub parts : vs ≡ before ++ me ∷ after
  pub leads : leader ≡ greatest_of (me ∷ seen ++ before)

-- a decision was made when the own identity came home
pub decision_at_home-some : (me : ℕ) (seen vs : List ℕ) (leader : ℕ) → decision_at_home me seen vs ≡ Some leader → IsHome me seen vs leader
decision_at_home-some me seen [] leader is = cc
decision_at_home-some me seen (v ∷ vs) leader is =
    elim (v == me) as (λ b. (v == me) ≡ b → (if b then Some (greatest_of (me ∷ seen)) else decision_at_home me (seen ++ v ∷ []) vs) ≡ Some leader → IsHome me seen (v ∷ vs) leader) [
      | true ↦ λ own decides.
          let leads : leader ≡ greatest_of (me ∷ seen) = cc in
          record {
            before = [];
            after = vs;
            parts = ap (λ (x : ℕ). x ∷ vs) (grind (arith, nat_tests));
            leads = leads ∙ ap (λ (l : List ℕ). greatest_of (me ∷ l)) (sym (append-nil seen));
          }
      | false ↦ λ _ decides.
          let rest = decision_at_home-some me (seen ++ v ∷ []) vs leader decides in
          record {
            before = v ∷ rest.before;
            after = rest.after;
            parts = ap (λ (l : List ℕ). v ∷ l) rest.parts;
            leads = rest.leads ∙ ap (λ (l : List ℕ). greatest_of (me ∷ l)) (append_assoc seen (v ∷ []) rest.before);
          }
    ] refl is

-- if the own identity came, the node has decided
pub decision_at_home-home : (me : ℕ) (seen vs : List ℕ) → IsIn vs me → (leader : ℕ) × (decision_at_home me seen vs ≡ Some leader)
decision_at_home-home me seen vs home = at seen vs home.place home.there
  where
    at : (us ws : List ℕ) (k : ℕ) → slice_get ws k ≡ Some me → (leader : ℕ) × (decision_at_home me us ws ≡ Some leader)
    at us [] k there = cc
    at us (w ∷ ws) zero there =
        let same : w ≡ me = cc in
        let own : (w == me) ≡ true = grind (arith, nat_tests) in
        rw own (greatest_of (me ∷ us), refl)
    at us (w ∷ ws) (suc k) there =
        elim (w == me) as (λ b. (leader : ℕ) × ((if b then Some (greatest_of (me ∷ us)) else decision_at_home me (us ++ w ∷ []) ws) ≡ Some leader)) [
          | true ↦ (greatest_of (me ∷ us), refl)
          | false ↦ at (us ++ w ∷ []) ws k there
        ]
