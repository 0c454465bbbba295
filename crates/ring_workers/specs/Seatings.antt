-- Seatings: the nodes of one term that a worker owns, each at the place of its position.
use Rattle.std.specs.Prelude.{◌≡◌, ℕ, List, [], ◌∷◌, Option, None, Some}
use Rattle.ring_node.specs.declared.charter.Charter.{Charter}
use Rattle.ring_node.specs.Nodes.{Seated}
use Rattle.ring_workers.specs.Lists.{IsOneOf}

-- the number of the owner, how many workers there are, the charter of the term, and for each
-- position the node that is seated there, if any
pub record Seating (E M : Type 0) : Type 0 where
  pub number : ℕ
  pub workers : ℕ
  pub charter : Charter E
  pub places : List (Option (Seated E M))

-- the nodes that are seated, in the order of their positions
abbrev pub seated_in : {A : Type 0} → List (Option A) → List A
seated_in [] = []
seated_in (None ∷ places) = seated_in places
seated_in (Some node ∷ places) = node ∷ seated_in places

-- among these nodes is the one of this charter and position
pub record HasNodeAt {E M : Type 0} (nodes : List (Seated E M)) (charter : Charter E) (position : ℕ) : Type 0 where
  pub node : Seated E M
  pub there : IsOneOf nodes node
  pub charter_is : node.charter ≡ charter
  pub position_is : node.position ≡ position
