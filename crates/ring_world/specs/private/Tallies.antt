-- The tallies of a world: how many packets are in flight or stuck, and on which links something is
-- in flight. A world keeps them next to its nodes and its cuts.
use Rattle.std.specs.Prelude.{◌≡◌, ◌≢◌, ◌*◌, ◌^◌, ◌<◌, ◌≤◌, ◌⊎◌, ℕ, Bool, if◌then◌else◌, List, [], ◌∷◌, length}
use Rattle.ring_id.specs.declared.side.Side.{Side}
use Rattle.ring_id.specs.Sides.{other}
use Rattle.ring_roster.specs.Ring.{neighbour}
use Rattle.ring_election.specs.Tables.{Table}
use Rattle.ring_election.specs.Families.{Fitting}
use Rattle.ring_world.specs.private.LinkSets.{bit_of}
use Rattle.ring_world.specs.Worlds.{IsSoundWorld, Running, in_flight, link_place, on_link, pending_of, size_of}

-- 1 if the list has an element, else 0
abbrev pub some_or_none : {A : Type 0} → List A → ℕ
some_or_none [] = 0
some_or_none (x ∷ xs) = 1

-- a packet was taken from a link, and the link's bit was cleared if it was the last there; no other
-- bit changed
pub record HasLeft (old : List ℕ) (i : ℕ) (side : Side) (is_last : Bool) (new : List ℕ) : Type 0 where
  pub bit : bit_of new (link_place i side) ≡ if is_last then 0 else 1
  pub others : (place : ℕ) → place ≢ link_place i side → bit_of new place ≡ bit_of old place

module _ {E S M : Type 0} (t : E → Table S M) (world : Running E M) where
  -- a link's bit is set exactly if something is in flight on it
  pub record IsMarked (words : List ℕ) (i : ℕ) (side : Side) : Type 0 where
    pub bit : bit_of words (link_place i side) ≡ some_or_none (in_flight t world i side)
    pub few : length (on_link t world i side) < 2 ^ 64

  -- each link of the ring is marked, and no other bit is set
  pub record IsMarkedAll (words : List ℕ) : Type 0 where
    pub each : (i : ℕ) (side : Side) → i < size_of world → IsMarked words i side
    pub beyond : (place : ℕ) → 2 * size_of world ≤ place → bit_of words place ≡ 0

  -- one link is marked, and each link that was marked before is still marked
  pub record HasMarked (old : List ℕ) (i : ℕ) (side : Side) (new : List ℕ) : Type 0 where
    pub marked : IsMarked new i side
    pub kept : (j : ℕ) (from : Side) → IsMarked old j from → IsMarked new j from
    pub beyond : (place : ℕ) → 2 * size_of world ≤ place → bit_of new place ≡ bit_of old place

  -- the link from a node to a side is marked, if the node has sent more there than before
  abbrev pub HasMarkedSent : List ℕ → ℕ → Side → ℕ → List ℕ → Type 0
  HasMarkedSent old i to more new = ((more ≡ 0) × (new ≡ old)) ⊎ HasMarked old (neighbour (size_of world) i to) (other to) new

  -- the invariant of a world: it is sound, `pending` packets are in flight or stuck, and the bits
  -- are those of the links that aren't cut and have a packet
  pub record IsTallied (fits : E → Fitting M) (winner : E → List ℕ → ℕ) (pending : ℕ) (words : List ℕ) : Type 0 where
    pub sound : IsSoundWorld t fits winner world
    pub counted : pending ≡ pending_of t world
    pub marked : IsMarkedAll words
