-- The effect of an event on the worlds: which journals change, and what the numbers in replies
-- count.
use Rattle.std.specs.Prelude.{◌≡◌, ◌<◌, ◌≤◌, ◌⊎◌, ℕ, zero, suc, Bool, true, false, List, [], length, replicate, Option, Some, None, nat_lt}
use Rattle.std.specs.Map.{set_value}
use Rattle.std.specs.Str.{bytes_eq}
use Rattle.ring_id.specs.declared.side.Side.{Side}
use Rattle.ring_id.specs.Refusals.{IsRefusal}
use Rattle.ring_roster.specs.Ring.{position_of}
use Rattle.ring_election.specs.Tables.{Table}
use Rattle.ring_node.specs.declared.charter.Charter.{Charter}
use Rattle.ring_node.specs.Reports.{Told}
use Rattle.ring_world.specs.Quiet.{IsQuiet}
use Rattle.ring_node.specs.Links.{link_refusal}
use Rattle.ring_world.specs.Worlds.{HasMoved, IsFirstLink, Running, in_flight, no_cuts}
use Rattle.ring_terms.specs.declared.standing.Noting.TheVariants.{Noted}
use Rattle.ring_terms.specs.Commands.{running_refusal}
use Rattle.ring_terms.specs.Notes.{Notes}
use Rattle.ring_terms.specs.Object.{InGroup, Object, OfGroup}
use Rattle.ring_mux.specs.declared.carried.Carried.{Carried}
use Rattle.ring_mux.specs.declared.carried.Carried.TheVariants.{Moved, Idle, Refused}
use Rattle.ring_terms.specs.Steps.{MovesOf, MovesTimes}
use Rattle.ring_mux.specs.Views.{Held, world_in}

-- the worlds with this one under that name; all others are as they were
abbrev pub with_world : {E M : Type 0} → List ℕ → Running E M → List (List ℕ × Running E M) → List (List ℕ × Running E M)
with_world name world worlds = set_value (bytes_eq name) worlds world

-- the world of a charter before any delivery and any cut
abbrev pub begun_of : {E M : Type 0} → Charter E → Running E M
begun_of charter = record { charter = charter; journals = replicate (length charter.roster) []; cut = no_cuts (length charter.roster) }

-- a delivery files nothing in the object if it makes no report; else it files its report, by which
-- the member that the report names becomes informed
abbrev pub Files : {E : Type 0} → (E → Bool) → Option (Told E) → Object E → Object E → Type 0
Files greatest None old new = new ≡ old
Files greatest (Some report) old new = Notes greatest report old Noted new

-- a delivery on the link into a position of a group's world: that world moves and no other, and the
-- report of the receipt is filed in the object, which is a step at the member of that position
pub record HasCarried {E S M : Type 0} (t : E → Table S M) (greatest : E → Bool) (name : List ℕ) (i : ℕ) (side : Side) (old new : Held E M) : Type 0 where
  pub before : Running E M
  pub after : Running E M
  pub report : Option (Told E)
  pub found : world_in name old.worlds ≡ Some before
  pub moved : HasMoved t before i side report after
  pub worlds : new.worlds ≡ with_world name after old.worlds
  pub filed : Files greatest report old.object new.object
  pub object : (node : ℕ) → position_of node before.charter.roster ≡ Some i → InGroup name (MovesOf greatest node) old.object new.object

-- the effect of a delivery on a link of a group's world
abbrev pub Carries : {E S M : Type 0} → (E → Table S M) → (E → Bool) → (E → Bool) → List ℕ → ℕ → Side → Running E M → Held E M → Carried → Held E M → Type 0
Carries t two_way greatest name i side world old Moved new = (link_refusal (two_way world.charter.algorithm) side ≡ None) × HasCarried t greatest name i side old new
Carries t two_way greatest name i side world old Idle new = (link_refusal (two_way world.charter.algorithm) side ≡ None) × (in_flight t world i side ≡ []) × (new ≡ old)
Carries t two_way greatest name i side world old (Refused refusal) new =
    IsRefusal (link_refusal (two_way world.charter.algorithm) side) (nat_lt 0 (length (in_flight t world i side))) refusal × (new ≡ old)

-- something can move in a world: there is a first link with a packet in flight
pub record CanMove {E S M : Type 0} (t : E → Table S M) (world : Running E M) : Type 0 where
  pub position : ℕ
  pub side : Side
  pub first : IsFirstLink t world position side

-- one delivery of a drain, on the link that is ready first in a group's world
pub record CarriesOnce {E S M : Type 0} (t : E → Table S M) (greatest : E → Bool) (name : List ℕ) (old new : Held E M) : Type 0 where
  pub position : ℕ
  pub side : Side
  pub carried : HasCarried t greatest name position side old new
  pub ready : IsFirstLink t carried.before position side

-- a number of deliveries of a drain, one after another: each moves the world and files its report
-- before the next
abbrev pub CarriesTimes : {E S M : Type 0} → (E → Table S M) → (E → Bool) → List ℕ → ℕ → Held E M → Held E M → Type 0
CarriesTimes t greatest name zero old new = new ≡ old
CarriesTimes {E} {S} {M} t greatest name (suc n) old new = (mid : Held E M) × CarriesTimes t greatest name n old mid × CarriesOnce t greatest name mid new

-- The deliveries of a drain: how many were made, and whether an allocation failed. A drain that has
-- not starved has made all of them, or nothing can move. One that has starved still had deliveries
-- to make, and something could move.
pub record Makes {E S M : Type 0} (t : E → Table S M) (greatest : E → Bool) (name : List ℕ) (count done : ℕ) (starved : Bool) (old new : Held E M) : Type 0 where
  pub within : done ≤ count
  pub made : CarriesTimes t greatest name done old new
  pub object : InGroup name (MovesTimes greatest done) old.object new.object
  pub runs : OfGroup name (λ group. running_refusal group ≡ None) new.object
  pub ended : starved ≡ false → (done ≡ count) ⊎ ((w : Running E M) → world_in name new.worlds ≡ Some w → IsQuiet t w)
  pub stopped : starved ≡ true → (done < count) × ((w : Running E M) → world_in name new.worlds ≡ Some w → CanMove t w)
