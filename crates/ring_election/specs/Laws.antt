-- The laws of a ring election, over every ring and every list of receipts.
use Rattle.std.specs.Prelude.{◌≡◌, ◌≤◌, ℕ, Bool, true, false, List, length, Some, None, slice_get}
use Rattle.ring_id.specs.declared.side.Side.{Side}
use Rattle.ring_id.specs.declared.side.Side.TheVariants.{Left}
use Rattle.ring_roster.specs.Ring.{IsRing}
use Rattle.ring_election.specs.Tables.{Table, to_side}
use Rattle.ring_election.specs.Traces.{sent_after, state_after}
use Rattle.ring_election.specs.Families.{AllFit, FamilyFits, Fitting, HasDecided, IsComplete, IsSound, taken_in_all}

-- The laws that keep a leader unique (Lynch, Distributed Algorithms, 3.1: at most one process
-- outputs that it is the leader). They speak of one position and the list of its receipts.
pub record Lawful {S M : Type 0} (two_way greatest : Bool) (t : Table S M) (fits : Fitting M)
    (winner : List ℕ → ℕ) : Type 0 where
  -- a node that starts has decided nothing
  pub start_undecided : (me : ℕ) → t.decided (t.first me) ≡ None
  -- a decision once made stays
  pub decision_stays : (me : ℕ) (receipts : List (Side × M)) (side : Side) (m : M) (v : ℕ)
      → t.decided (state_after t me receipts) ≡ Some v
      → t.decided (t.next (state_after t me receipts) side m) ≡ Some v
  -- no message fits on a left link of an algorithm that isn't two-way
  pub one_way : two_way ≡ false → (ring : List ℕ) (i k : ℕ) (m : M) → fits ring i Left k m → ⊥
  -- the messages of a node that starts fit as the first of their links
  pub first_sends_fit : (ring : List ℕ) (i me : ℕ) (side : Side) (m : M) → IsRing ring
      → slice_get ring i ≡ Some me → to_side side (t.first_sends me) ≡ Some m → fits ring i side 0 m
  -- every message that a node sends fits at its index, if all messages that it took fit
  pub sends_fit : (ring : List ℕ) (i me : ℕ) (receipts : List (Side × M)) (side : Side) (k : ℕ)
      (m : M) → IsRing ring → slice_get ring i ≡ Some me → AllFit fits ring i receipts
      → slice_get (sent_after t me side receipts) k ≡ Some m → fits ring i side k m
  -- a node decides only on the winner, if all messages that it took fit
  pub decides_winner : (ring : List ℕ) (i me : ℕ) (receipts : List (Side × M)) (v : ℕ) → IsRing ring
      → slice_get ring i ≡ Some me → AllFit fits ring i receipts
      → t.decided (state_after t me receipts) ≡ Some v → v ≡ winner ring
  -- the winner is a member
  pub winner_is_member : (ring : List ℕ) → IsRing ring
      → (i : ℕ) × (slice_get ring i ≡ Some (winner ring))
  -- if the greatest is promised, no member is greater than the winner
  pub winner_is_greatest : greatest ≡ true → (ring : List ℕ) (i v : ℕ) → IsRing ring
      → slice_get ring i ≡ Some v → v ≤ winner ring

-- If every sent message was taken, the ring is decided (Lynch, Distributed Algorithms, 3.1: some
-- process eventually outputs that it is the leader). The law does not speak of time.
pub record Deciding {S M : Type 0} (t : Table S M) (fits : Fitting M) : Type 0 where
  pub complete_decides : (ring : List ℕ) (family : ℕ → List (Side × M)) → IsRing ring
      → FamilyFits fits ring family → IsComplete t ring family → HasDecided t ring family

-- The number of messages of an election is bounded (Lynch, Distributed Algorithms, 2.6:
-- communication complexity).
pub record Bounded {S M : Type 0} (t : Table S M) (fits : Fitting M) (bound : ℕ → ℕ) : Type 0 where
  pub work_is_bounded : (ring : List ℕ) (family : ℕ → List (Side × M)) → IsRing ring
      → FamilyFits fits ring family → IsSound t ring family
      → taken_in_all (length ring) family ≤ bound (length ring)
