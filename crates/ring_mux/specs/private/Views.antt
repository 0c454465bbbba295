-- The invariant of a mux: each group's world is at the group's place.
use Rattle.std.specs.Prelude.{◌≡◌, ◌<◌, ◌≤◌, ◌++◌, ℕ, List, length, replicate, Option, None, Some, slice_get}
use Rattle.ring_election.specs.Tables.{Table}
use Rattle.ring_election.specs.Families.{Fitting}
use Rattle.ring_world.specs.Worlds.{IsSoundWorld, Running}
use Rattle.ring_terms.specs.Commands.{running_refusal}
use Rattle.ring_terms.specs.Object.{Object, OfGroup, OfLast, names, place_of}
use Rattle.ring_mux.specs.Views.{placed, world_in, IsHeld}

-- this name is at this place, and at no other
pub record IsAt (name : List ℕ) (place : ℕ) (names : List (List ℕ)) : Type 0 where
  pub here : slice_get names place ≡ Some name
  pub alone : (other : ℕ) → slice_get names other ≡ Some name → other ≡ place

-- each world is sound: its journals are a sound family that fits, and what a node knows is the
-- winner
pub record AreSound {E S M : Type 0} (t : E → Table S M) (fits : E → Fitting M) (winner : E → List ℕ → ℕ) (worlds : List (List ℕ × Running E M)) : Type 0 where
  pub each : (name : List ℕ) (world : Running E M) → world_in name worlds ≡ Some world → IsSoundWorld t fits winner world

-- the invariant of a mux, seen as the object and its worlds
pub record IsSoundHeld {E S M : Type 0} (t : E → Table S M) (fits : E → Fitting M) (winner : E → List ℕ → ℕ) (object : Object E) (worlds : List (List ℕ × Running E M)) : Type 0 where
  pub held : IsHeld t object worlds
  pub sound : AreSound t fits winner worlds

-- the invariant of its list of worlds, which are at places of groups
pub record IsKeptAt {E S M : Type 0} (t : E → Table S M) (fits : E → Fitting M) (winner : E → List ℕ → ℕ) (object : Object E) (slots : List (Option (Running E M))) : Type 0 where
  pub held : IsSoundHeld t fits winner object (placed (names object) slots)
  pub few : length slots ≤ length (names object)

-- this is the world of a group at this place, whose term runs, among the worlds of some mux over
-- this object
pub record StandsAt {E S M : Type 0} (t : E → Table S M) (fits : E → Fitting M) (winner : E → List ℕ → ℕ) (place : ℕ) (object : Object E) (world : Running E M) : Type 0 where
  pub name : List ℕ
  pub worlds : List (List ℕ × Running E M)
  pub kept : IsSoundHeld t fits winner object worlds
  pub found : world_in name worlds ≡ Some world
  pub runs : OfGroup name (λ group. running_refusal group ≡ None) object
  pub placed : place_of name object ≡ Some place

-- a list of worlds that has grown to have this place, with no world at each new place
pub record HasGrown {X : Type 0} (place : ℕ) (old new : List (Option X)) : Type 0 where
  pub more : ℕ
  pub items : new ≡ old ++ replicate more None
  pub inside : place < length new
  pub within : (most : ℕ) → length old ≤ most → place < most → length new ≤ most

-- a position on the ring of a group's last term
abbrev pub IsSeat : {E : Type 0} → List ℕ → ℕ → Object E → Type 0
IsSeat name i object = OfGroup name (OfLast (λ term. i < length term.ring)) object
