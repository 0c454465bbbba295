-- The promises of inner functions of a worker on seating nodes.
use Rattle.std.specs.Prelude.{◌≡◌, ◌<◌, ℕ, List, Option, None, Some, length, replicate, slice_get, slice_index}
use Rattle.ring_node.specs.declared.charter.Charter.{Charter}
use Rattle.ring_node.specs.Nodes.{Seated, member_of}
use Rattle.ring_workers.specs.Owners.{owner_of}
use Rattle.ring_workers.specs.Seatings.{Seating}

-- seats with no node
abbrev pub empty_seating : {E M : Type 0} → ℕ → ℕ → Charter E → Seating E M
empty_seating number workers charter = record { number = number; workers = workers; charter = charter; places = replicate (length charter.roster) None }

-- the node is of this term and of this position, and the worker owns it
pub record IsPlaced {E M : Type 0} (number workers : ℕ) (charter : Charter E) (place : ℕ) (node : Seated E M) : Type 0 where
  pub charter_is : node.charter ≡ charter
  pub position_is : node.position ≡ place
  pub owned : owner_of workers (member_of node) ≡ number

-- there is a place for each position, and each node is at its own
pub record IsSeating {E M : Type 0} (number workers : ℕ) (charter : Charter E) (places : List (Option (Seated E M))) : Type 0 where
  pub size : length places ≡ length charter.roster
  pub each : (place : ℕ) (node : Seated E M) → slice_get places place ≡ Some (Some node) → IsPlaced number workers charter place node

-- the owner and the term stay
pub record KeepsTerm {E M : Type 0} (old new : Seating E M) : Type 0 where
  pub number_is : new.number ≡ old.number
  pub workers_is : new.workers ≡ old.workers
  pub charter_is : new.charter ≡ old.charter

-- the worker owns the node at this position of the ring, and it is not seated
pub record IsFree {E M : Type 0} (seats : Seating E M) (position : ℕ) : Type 0 where
  pub inside : position < length seats.charter.roster
  pub owned : owner_of seats.workers (slice_index seats.charter.roster position) ≡ seats.number
  pub empty : slice_get seats.places position ≡ Some None
