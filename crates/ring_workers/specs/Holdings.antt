-- Holdings: all nodes that a worker holds, by group.
use Rattle.std.specs.Prelude.{◌≡◌, ℕ, List, [], ◌∷◌, ◌++◌, Some, slice_get}
use Rattle.ring_node.specs.declared.charter.Charter.{Charter}
use Rattle.ring_node.specs.Nodes.{Seated, member_of}
use Rattle.ring_workers.specs.Lists.{IsOneOf}
use Rattle.ring_workers.specs.Owners.{owner_of}
use Rattle.ring_workers.specs.Seatings.{HasNodeAt, Seating, seated_in}

-- the worker's number, how many workers there are, and the seats of each group under its name
pub record Holding (E M : Type 0) : Type 0 where
  pub number : ℕ
  pub workers : ℕ
  pub groups : List (List ℕ × Seating E M)

-- the nodes of these groups, group by group
abbrev pub nodes_in : {E M : Type 0} → List (List ℕ × Seating E M) → List (Seated E M)
nodes_in [] = []
nodes_in (g ∷ groups) = seated_in g.1.places ++ nodes_in groups

-- all nodes that are held
abbrev pub nodes_of : {E M : Type 0} → Holding E M → List (Seated E M)
nodes_of holding = nodes_in holding.groups

-- the charters of these groups
abbrev pub charters_in : {E M : Type 0} → List (List ℕ × Seating E M) → List (Charter E)
charters_in [] = []
charters_in (g ∷ groups) = g.1.charter ∷ charters_in groups

-- the charter of each group's term
abbrev pub charters_of : {E M : Type 0} → Holding E M → List (Charter E)
charters_of holding = charters_in holding.groups

-- no two of these nodes have one charter and one position
pub record NoTwoAlike {E M : Type 0} (nodes : List (Seated E M)) : Type 0 where
  pub each : (j k : ℕ) (a b : Seated E M) → slice_get nodes j ≡ Some a → slice_get nodes k ≡ Some b → a.charter ≡ b.charter → a.position ≡ b.position → j ≡ k

-- the worker of this number owns each of these nodes
pub record AllOwned {E M : Type 0} (number workers : ℕ) (nodes : List (Seated E M)) : Type 0 where
  pub each : (node : Seated E M) → IsOneOf nodes node → owner_of workers (member_of node) ≡ number

-- among these nodes is each one of the charter that the worker of this number owns
pub record AllSeated {E M : Type 0} (number workers : ℕ) (nodes : List (Seated E M)) (charter : Charter E) : Type 0 where
  pub each : (position member : ℕ) → slice_get charter.roster position ≡ Some member → owner_of workers member ≡ number → HasNodeAt nodes charter position
