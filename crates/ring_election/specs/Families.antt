-- Families of receipts: for each position of a ring, the list of the messages that it received. A
-- family is no schedule: it says nothing about the order between two positions.
use Rattle.std.specs.Prelude.{◌≡◌, ◌+◌, ◌<◌, ℕ, zero, suc, List, ◌++◌, length, Some, slice_get}
use Rattle.ring_id.specs.declared.side.Side.{Side}
use Rattle.ring_id.specs.Sides.{other}
use Rattle.ring_roster.specs.Ring.{neighbour}
use Rattle.ring_election.specs.Tables.{Table}
use Rattle.ring_election.specs.Traces.{sent_after, state_after, taken_from}

-- Which messages belong on the links of a ring. The arguments are the ring, the sender's position,
-- the side of the link, the index of the message on it, from 0, and the message.
abbrev pub Fitting : Type 0 → Type 1
Fitting M = List ℕ → ℕ → Side → ℕ → M → Type 0

-- each message that position i took fits at its index on the link that it came from
pub record AllFit {M : Type 0} (fits : Fitting M) (ring : List ℕ) (i : ℕ)
    (receipts : List (Side × M)) : Type 0 where
  pub each : (side : Side) (k : ℕ) (m : M) → slice_get (taken_from side receipts) k ≡ Some m
      → fits ring (neighbour (length ring) i side) (other side) k m

-- a family that fits: all messages that each position took fit
pub record FamilyFits {M : Type 0} (fits : Fitting M) (ring : List ℕ) (family : ℕ → List (Side × M))
    : Type 0 where
  pub at : (i : ℕ) → i < length ring → AllFit fits ring i (family i)

-- a sound family: the messages that each position took from a side are a prefix of those that its
-- neighbour there has sent to it
pub record IsSound {S M : Type 0} (t : Table S M) (ring : List ℕ) (family : ℕ → List (Side × M))
    : Type 0 where
  pub taken : (i : ℕ) (from : Side) (sender : ℕ) → i < length ring
      → slice_get ring (neighbour (length ring) i from) ≡ Some sender
      → (rest : List M)
      × (taken_from from (family i) ++ rest
      ≡ sent_after t sender (other from) (family (neighbour (length ring) i from)))

-- a complete family: each position took from each side all messages that its neighbour has sent
pub record IsComplete {S M : Type 0} (t : Table S M) (ring : List ℕ) (family : ℕ → List (Side × M))
    : Type 0 where
  pub taken : (i : ℕ) (from : Side) (sender : ℕ) → i < length ring
      → slice_get ring (neighbour (length ring) i from) ≡ Some sender
      → taken_from from (family i)
      ≡ sent_after t sender (other from) (family (neighbour (length ring) i from))

-- some position has decided
pub record HasDecided {S M : Type 0} (t : Table S M) (ring : List ℕ) (family : ℕ → List (Side × M))
    : Type 0 where
  pub position : ℕ
  pub me : ℕ
  pub leader : ℕ
  pub there : slice_get ring position ≡ Some me
  pub decided : t.decided (state_after t me (family position)) ≡ Some leader

-- the number of messages that the positions below n have taken
abbrev pub taken_in_all : {M : Type 0} → ℕ → (ℕ → List (Side × M)) → ℕ
taken_in_all zero family = 0
taken_in_all (suc n) family = taken_in_all n family + length (family n)
