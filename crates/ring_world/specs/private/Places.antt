-- Places of nodes: a list that has for each position of a ring the index of its node in a list of
-- nodes.
use Rattle.std.specs.Prelude.{◌≡◌, ◌<◌, ℕ, List, length, Option, Some, None, slice_get, slice_index_or}
use Rattle.ring_node.specs.declared.charter.Charter.{Charter}
use Rattle.ring_node.specs.Nodes.{Seated}
use Rattle.ring_world.specs.Settlements.{IsAlone}

-- the entry of the list for a position
abbrev pub place_at : List (Option ℕ) → ℕ → Option ℕ
place_at at position = slice_index_or at position None

-- the node at this place is of the charter, at this position of the ring
pub record StandsAt {E M : Type 0} (charter : Charter E) (nodes : List (Seated E M)) (position place : ℕ) : Type 0 where
  pub node : Seated E M
  pub there : slice_get nodes place ≡ Some node
  pub charter_is : node.charter ≡ charter
  pub position_is : node.position ≡ position

-- the list has the place of each of the first n nodes that is of the charter, and nothing else
pub record IsPlaced {E M : Type 0} (charter : Charter E) (nodes : List (Seated E M)) (n : ℕ) (at : List (Option ℕ)) : Type 0 where
  pub below : (position place : ℕ) → place_at at position ≡ Some place → place < n
  pub stands : (position place : ℕ) → place_at at position ≡ Some place → StandsAt charter nodes position place
  pub each : (place : ℕ) (node : Seated E M) → place < n → slice_get nodes place ≡ Some node → node.charter ≡ charter → place_at at node.position ≡ Some place

-- one position of the ring has no node, or several
pub record IsShared {E M : Type 0} (charter : Charter E) (nodes : List (Seated E M)) : Type 0 where
  pub position : ℕ
  pub inside : position < length charter.roster
  pub shared : (node : Seated E M) → IsAlone charter nodes position node → ⊥

-- the node at the place that the list has for a position
pub record IsListed {E M : Type 0} (nodes : List (Seated E M)) (at : List (Option ℕ)) (position : ℕ) (node : Seated E M) : Type 0 where
  pub place : ℕ
  pub said : place_at at position ≡ Some place
  pub there : slice_get nodes place ≡ Some node

-- the list names no node for a position
pub record IsUnlisted {E M : Type 0} (nodes : List (Seated E M)) (at : List (Option ℕ)) (position : ℕ) : Type 0 where
  pub none : (place : ℕ) → place_at at position ≡ Some place → slice_get nodes place ≡ None
