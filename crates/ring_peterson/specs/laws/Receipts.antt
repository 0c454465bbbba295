-- A node's state and messages are a fold over the messages that it took from the left. A message
-- from the right changes nothing.
use Rattle.std.specs.Prelude.{◌≡◌, ℕ, Bool, true, false, if◌then◌else◌, List, [], ◌∷◌, ◌++◌, Option, Some, None}
use Rattle.std.proofs.Common.{refl, ap, ◌∙◌}
use Rattle.ring_id.specs.declared.side.Side.{Side}
use Rattle.ring_id.specs.declared.side.Side.TheVariants.{Left, Right}
use Rattle.ring_id.specs.Sides.{same_side}
use Rattle.ring_election.specs.Tables.{nothing, rightward, to_side}
use Rattle.ring_election.specs.Traces.{listed, sent_from, state_from, taken_from}
use Rattle.ring_peterson.specs.declared.peterson.Mode.TheVariants.{Active, Relay}
use Rattle.ring_peterson.specs.declared.peterson.PetersonState.{PetersonState}
use Rattle.ring_peterson.specs.Peterson.{active_sends, is_peak, left_next, left_sends, peterson_next, peterson_sends, peterson_table}

-- the state after these messages from the left
abbrev pub after_left : PetersonState → List ℕ → PetersonState
after_left s [] = s
after_left s (m ∷ ms) = after_left (left_next s s.mode m) ms

-- the messages to the right that they cause
abbrev pub answered : PetersonState → List ℕ → List ℕ
answered s [] = []
answered s (m ∷ ms) = listed (left_sends s s.mode m).right ++ answered (left_next s s.mode m) ms

-- an active node at the beginning of a round
abbrev pub active : ℕ → ℕ → Bool → PetersonState
active me v c = record { me = me; mode = Active; uid1 = v; uid2 = None; chosen = c }

-- a relay
abbrev pub relay : ℕ → ℕ → Option ℕ → Bool → PetersonState
relay me v second c = record { me = me; mode = Relay; uid1 = v; uid2 = second; chosen = c }

-- the state of a node after some receipts
pub state_from-left : (s : PetersonState) (receipts : List (Side × ℕ)) → state_from peterson_table s receipts ≡ after_left s (taken_from Left receipts)
state_from-left s [] = refl
state_from-left s (r ∷ receipts) =
    elim r.0 as (λ side. state_from peterson_table (peterson_next s side r.1) receipts ≡ after_left s (if same_side Left side then r.1 ∷ taken_from Left receipts else taken_from Left receipts)) [
      | Left ↦ state_from-left (left_next s s.mode r.1) receipts
      | Right ↦ state_from-left s receipts
    ]

-- the messages to the right that these receipts cause
pub sent_from-right : (s : PetersonState) (receipts : List (Side × ℕ)) → sent_from peterson_table Right s receipts ≡ answered s (taken_from Left receipts)
sent_from-right s [] = refl
sent_from-right s (r ∷ receipts) =
    elim r.0 as (λ side. listed (to_side Right (peterson_sends s side r.1)) ++ sent_from peterson_table Right (peterson_next s side r.1) receipts ≡ answered s (if same_side Left side then r.1 ∷ taken_from Left receipts else taken_from Left receipts)) [
      | Left ↦ ap (λ (l : List ℕ). listed (left_sends s s.mode r.1).right ++ l) (sent_from-right (left_next s s.mode r.1) receipts)
      | Right ↦ sent_from-right s receipts
    ]

-- a relay stays one
pub after_left-relay : (me v : ℕ) (second : Option ℕ) (c : Bool) (ms : List ℕ) → after_left (relay me v second c) ms ≡ relay me v second c
after_left-relay me v second c [] = refl
after_left-relay me v second c (m ∷ ms) = after_left-relay me v second c ms

-- a relay passes on each message that it takes
pub answered-relay : (me v : ℕ) (second : Option ℕ) (c : Bool) (ms : List ℕ) → answered (relay me v second c) ms ≡ ms
answered-relay me v second c [] = refl
answered-relay me v second c (m ∷ ms) = ap (λ (l : List ℕ). m ∷ l) (answered-relay me v second c ms)

-- no answer goes to the left
active_sends-left : (s : PetersonState) (second : Option ℕ) (m : ℕ) → (active_sends s second m).left ≡ None
active_sends-left s None m = refl
active_sends-left s (Some second) m = elim (is_peak s.uid1 second m) as (λ b. (if b then rightward second else nothing ℕ).left ≡ None) [ true ↦ refl | false ↦ refl ]

peterson_sends-left : (s : PetersonState) (side : Side) (m : ℕ) → (peterson_sends s side m).left ≡ None
peterson_sends-left s Left m = elim s.mode as (λ mode. (left_sends s mode m).left ≡ None) [ Active ↦ active_sends-left s s.uid2 m | Relay ↦ refl ]
peterson_sends-left s Right m = refl

-- so no message is sent there
pub sent_from-left : (s : PetersonState) (receipts : List (Side × ℕ)) → sent_from peterson_table Left s receipts ≡ []
sent_from-left s [] = refl
sent_from-left s (r ∷ receipts) =
    ap (λ (o : Option ℕ). listed o ++ sent_from peterson_table Left (peterson_next s r.0 r.1) receipts) (peterson_sends-left s r.0 r.1)
    ∙ sent_from-left (peterson_next s r.0 r.1) receipts
