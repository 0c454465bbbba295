-- The invariant of the nodes that a worker holds, and the promises of inner functions on them.
use Rattle.std.specs.Prelude.{◌≡◌, ◌<◌, ℕ, List, ◌++◌, ◌⊎◌, Some, slice_get}
use Rattle.ring_election.specs.Tables.{Table}
use Rattle.ring_node.specs.declared.charter.Charter.{Charter}
use Rattle.ring_node.specs.Envelopes.{Sent}
use Rattle.ring_node.specs.Nodes.{Seated}
use Rattle.ring_workers.specs.private.Goings.{Grows}
use Rattle.ring_workers.specs.Goings.{IsSent}
use Rattle.ring_workers.specs.Lists.{IsOneOf}
use Rattle.ring_workers.specs.private.Seatings.{IsSeating}
use Rattle.ring_workers.specs.Seatings.{Seating}
use Rattle.ring_workers.specs.Holdings.{Holding, nodes_of, charters_of}

-- the seats are of the group of this name, and this worker's
pub record IsGroupAt {E M : Type 0} (number workers : ℕ) (name : List ℕ) (seats : Seating E M) : Type 0 where
  pub named : seats.charter.group ≡ name
  pub number_is : seats.number ≡ number
  pub workers_is : seats.workers ≡ workers
  pub seated : IsSeating seats.number seats.workers seats.charter seats.places

-- each group has its own name, and seats of this worker's
pub record IsHolding {E M : Type 0} (number workers : ℕ) (groups : List (List ℕ × Seating E M)) : Type 0 where
  pub each : (g : List ℕ × Seating E M) → IsOneOf groups g → IsGroupAt number workers g.0 g.1
  pub once : (j k : ℕ) (a b : List ℕ × Seating E M) → slice_get groups j ≡ Some a → slice_get groups k ≡ Some b → a.0 ≡ b.0 → j ≡ k

-- one of these charters is of a newer term of the charter's group
pub record IsOlder {E : Type 0} (charters : List (Charter E)) (charter : Charter E) : Type 0 where
  pub newer : Charter E
  pub held : IsOneOf charters newer
  pub group : newer.group ≡ charter.group
  pub term : charter.term < newer.term

-- the seats at this place are of the charter's group and term
pub record HasGroupAt {E M : Type 0} (groups : List (List ℕ × Seating E M)) (place : ℕ) (charter : Charter E) : Type 0 where
  pub name : List ℕ
  pub seats : Seating E M
  pub there : slice_get groups place ≡ Some (name, seats)
  pub group : seats.charter.group ≡ charter.group
  pub term : seats.charter.term ≡ charter.term

-- the seats at this place are of the charter's group and of an older term
pub record HasOlderAt {E M : Type 0} (groups : List (List ℕ × Seating E M)) (place : ℕ) (charter : Charter E) : Type 0 where
  pub name : List ℕ
  pub seats : Seating E M
  pub there : slice_get groups place ≡ Some (name, seats)
  pub group : seats.charter.group ≡ charter.group
  pub term : seats.charter.term < charter.term

module _ {E S M : Type 0} (t : E → Table S M) where
  -- The change of all nodes while an item of this charter is handled. Nodes of another term of its
  -- group may be dropped; all others stay and may have received more. Each packet that a node has
  -- sent was sent before, or has joined the outbox. A charter that was not held before is of the
  -- group and term of this one.
  pub record Steps (charter : Charter E) (old new : Holding E M) (waiting after : List (Sent E M)) : Type 0 where
    pub number_is : new.number ≡ old.number
    pub workers_is : new.workers ≡ old.workers
    pub more : List (Sent E M)
    pub behind : after ≡ waiting ++ more
    pub stays : (node : Seated E M) → IsOneOf (nodes_of old) node → (node.charter.group ≡ charter.group → node.charter.term ≡ charter.term) →
        (later : Seated E M) × IsOneOf (nodes_of new) later × Grows node later
    pub posted : (node : Seated E M) → IsOneOf (nodes_of new) node → (e : Sent E M) → IsSent t node e →
        ((before : Seated E M) × IsOneOf (nodes_of old) before × IsSent t before e) ⊎ IsOneOf more e
    pub source : (c : Charter E) → IsOneOf (charters_of new) c → IsOneOf (charters_of old) c ⊎ ((c.group ≡ charter.group) × (c.term ≡ charter.term))
