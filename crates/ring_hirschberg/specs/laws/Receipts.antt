-- Lists of receipts: facts about each receipt of a node, and what follows for its state and its
-- messages. Nothing here knows the algorithm.
use Rattle.std.specs.Prelude.{◌≡◌, ℕ, zero, suc, true, false, if◌then◌else◌, ◌⊎◌, List, [], ◌∷◌, ◌++◌, length, Option, Some, None, slice_get, refl}
use Rattle.std.proofs.Common.{inl, inr}
use Rattle.ring_id.specs.declared.side.Side.{Side}
use Rattle.ring_id.specs.declared.side.Side.TheVariants.{Left, Right}
use Rattle.ring_id.specs.Sides.{other, same_side}
use Rattle.ring_roster.specs.Ring.{neighbour}
use Rattle.ring_election.specs.Tables.{Table, to_side}
use Rattle.ring_election.specs.Traces.{listed, sent_after, sent_from, state_from, taken_from}
use Rattle.ring_election.specs.Families.{AllFit}

-- P holds of each receipt, given by the side that it came from and its message
abbrev pub EachReceipt : {M : Type 0} → (Side → M → Type 0) → List (Side × M) → Type 0
EachReceipt P [] = Unit {0}
EachReceipt P (r ∷ rs) = P r.0 r.1 × EachReceipt P rs

-- P holds of each message that was taken from a side
abbrev pub EachTaken : {M : Type 0} → (Side → M → Type 0) → List (Side × M) → Type 0
EachTaken {M} P receipts =
    (side : Side) (k : ℕ) (m : M) → slice_get (taken_from side receipts) k ≡ Some m → P side m

-- the first receipt is the first that was taken from its side
first_taken : {M : Type 0} (from : Side) (m : M) (receipts : List (Side × M)) → slice_get (taken_from from ((from, m) ∷ receipts)) 0 ≡ Some m
first_taken Left m receipts = refl
first_taken Right m receipts = refl

-- a message taken in the later receipts was taken
later_taken : {M : Type 0} (P : Side → M → Type 0) (r : Side × M) (receipts : List (Side × M)) → EachTaken P (r ∷ receipts) → EachTaken P receipts
later_taken {M} P r receipts each side k m =
    elim (same_side side r.0) as (λ same. ((k : ℕ) (m : M) → slice_get (if same then r.1 ∷ taken_from side receipts else taken_from side receipts) k ≡ Some m → P side m) → slice_get (taken_from side receipts) k ≡ Some m → P side m) [
      | true ↦ λ whole. whole (suc k) m
      | false ↦ λ whole. whole k m
    ] (each side)

-- a fact about each message taken is a fact about each receipt
pub each_receipt : {M : Type 0} (P : Side → M → Type 0) (receipts : List (Side × M)) → EachTaken P receipts → EachReceipt P receipts
each_receipt P [] each = tt
each_receipt P (r ∷ receipts) each = (each r.0 0 r.1 (first_taken r.0 r.1 receipts), each_receipt P receipts (later_taken P r receipts each))

-- if the index on a link does not matter, receipts fit one by one
pub each_fits : {M : Type 0} (allowed : List ℕ → ℕ → Side → M → Type 0) (ring : List ℕ) (i : ℕ) (receipts : List (Side × M)) →
    AllFit (λ ring i side k m. allowed ring i side m) ring i receipts → EachReceipt (λ from m. allowed ring (neighbour (length ring) i from) (other from) m) receipts
each_fits allowed ring i receipts fit = each_receipt (λ from m. allowed ring (neighbour (length ring) i from) (other from) m) receipts fit.each

-- no condition on the receipts
pub any_receipt : {M : Type 0} (receipts : List (Side × M)) → EachReceipt (λ from m. Unit {0}) receipts
any_receipt [] = tt
any_receipt (r ∷ receipts) = (tt, any_receipt receipts)

-- a message of a short list and of the list after it is one of either
in_either : {M : Type 0} (first : Option M) (rest : List M) (k : ℕ) (m : M) → slice_get (listed first ++ rest) k ≡ Some m →
    (first ≡ Some m) ⊎ ((j : ℕ) × (slice_get rest j ≡ Some m))
in_either None rest k m there = inr (k, there)
in_either (Some f) rest zero m there = inl there
in_either (Some f) rest (suc k) m there = inr (k, there)

-- Let each receipt with P keep a state of kind I in kind I, and send only messages with Q to each
-- side. Then so does any number of receipts.
module _ {S M : Type 0} (t : Table S M) (I : S → Type 0) (P Q : Side → M → Type 0) (keeps : (s : S) (from : Side) (m : M) → I s → P from m → I (t.next s from m)) where
  -- the state stays of its kind
  pub state_keeps : (s : S) (receipts : List (Side × M)) → I s → EachReceipt P receipts → I (state_from t s receipts)
  state_keeps s [] is each = is
  state_keeps s (r ∷ receipts) is each = state_keeps (t.next s r.0 r.1) receipts (keeps s r.0 r.1 is each.0) each.1

  -- Q holds of each message that is sent
  pub each_sent : ((s : S) (from : Side) (m : M) (to : Side) (sent : M) → I s → P from m → to_side to (t.next_sends s from m) ≡ Some sent → Q to sent) →
      (s : S) (receipts : List (Side × M)) → I s → EachReceipt P receipts → (to : Side) (k : ℕ) (sent : M) → slice_get (sent_from t to s receipts) k ≡ Some sent → Q to sent
  each_sent sends s [] is each to k sent there = absurd (nothing_there k sent there)
    where
      nothing_there : (k : ℕ) (sent : M) → slice_get [] k ≡ Some sent → ⊥
      nothing_there k sent e = cc
  each_sent sends s (r ∷ receipts) is each to k sent there =
      elim (in_either (to_side to (t.next_sends s r.0 r.1)) (sent_from t to (t.next s r.0 r.1) receipts) k sent there) [
        | inl first ↦ sends s r.0 r.1 to sent is each.0 first
        | inr later ↦ each_sent sends (t.next s r.0 r.1) receipts (keeps s r.0 r.1 is each.0) each.1 to later.0 sent later.1
      ]

  -- the same with the messages that a node sends when it starts
  pub each_sent_after : ((s : S) (from : Side) (m : M) (to : Side) (sent : M) → I s → P from m → to_side to (t.next_sends s from m) ≡ Some sent → Q to sent) →
      (me : ℕ) (receipts : List (Side × M)) → I (t.first me) → ((to : Side) (m : M) → to_side to (t.first_sends me) ≡ Some m → Q to m) → EachReceipt P receipts →
      (to : Side) (k : ℕ) (sent : M) → slice_get (sent_after t me to receipts) k ≡ Some sent → Q to sent
  each_sent_after sends me receipts is starts each to k sent there =
      elim (in_either (to_side to (t.first_sends me)) (sent_from t to (t.first me) receipts) k sent there) [
        | inl first ↦ starts to sent first
        | inr later ↦ each_sent sends (t.first me) receipts is each to later.0 sent later.1
      ]
