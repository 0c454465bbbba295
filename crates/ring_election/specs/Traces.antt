-- The trace of a node: its state, and its messages to each side, after a list of receipts. It is
-- the table folded over the list (Lynch, Distributed Algorithms, 2.1 and 14.1: the states and
-- outputs of one process). The code keeps one state and forgets the list.
use Rattle.std.specs.Prelude.{ℕ, if◌then◌else◌, List, [], ◌∷◌, ◌++◌, Option, Some, None}
use Rattle.ring_id.specs.declared.side.Side.{Side}
use Rattle.ring_id.specs.Sides.{same_side}
use Rattle.ring_election.specs.Tables.{Table, to_side}

-- a message, if there is one, as a list
abbrev pub listed : {M : Type 0} → Option M → List M
listed None = []
listed (Some m) = m ∷ []

-- the state after these receipts, from a given state on; a receipt is a side and a message
abbrev pub state_from : {S M : Type 0} → Table S M → S → List (Side × M) → S
state_from t s [] = s
state_from t s (r ∷ rs) = state_from t (t.next s r.0 r.1) rs

-- the messages to a side that these receipts cause, from a given state on
abbrev pub sent_from : {S M : Type 0} → Table S M → Side → S → List (Side × M) → List M
sent_from t side s [] = []
sent_from t side s (r ∷ rs) =
    listed (to_side side (t.next_sends s r.0 r.1)) ++ sent_from t side (t.next s r.0 r.1) rs

-- the state of the node with identity `me` after these receipts
abbrev pub state_after : {S M : Type 0} → Table S M → ℕ → List (Side × M) → S
state_after t me receipts = state_from t (t.first me) receipts

-- all messages that it has sent to a side
abbrev pub sent_after : {S M : Type 0} → Table S M → ℕ → Side → List (Side × M) → List M
sent_after t me side receipts =
    listed (to_side side (t.first_sends me)) ++ sent_from t side (t.first me) receipts

-- all messages that it has taken from a side
abbrev pub taken_from : {M : Type 0} → Side → List (Side × M) → List M
taken_from side [] = []
taken_from side (r ∷ rs) = if same_side side r.0 then r.1 ∷ taken_from side rs else taken_from side rs
