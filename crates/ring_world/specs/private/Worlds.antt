-- The invariants of a circle and of a world.
use Rattle.std.specs.Prelude.{◌≡◌, ℕ, Bool, List, [], ◌∷◌}
use Rattle.ring_id.specs.declared.side.Side.{Side}
use Rattle.ring_election.specs.Tables.{Table}
use Rattle.ring_election.specs.Families.{Fitting}
use Rattle.ring_node.specs.declared.charter.Charter.{Charter}
use Rattle.ring_node.specs.declared.packet.Packet.{Packet}
use Rattle.ring_node.specs.Nodes.{Seated}
use Rattle.ring_world.specs.Worlds.{IsSoundWorld, Running, nodes_from}

-- the journals of nodes
abbrev pub journals_of : {E M : Type 0} → List (Seated E M) → List (List (Side × Packet M))
journals_of [] = []
journals_of (node ∷ nodes) = node.journal ∷ journals_of nodes

module _ {E S M : Type 0} (t : E → Table S M) where
  -- the invariant of a circle: its nodes are the charter's, in order, in a sound world
  pub record IsWorld (fits : E → Fitting M) (winner : E → List ℕ → ℕ) (charter : Charter E) (nodes : List (Seated E M)) (cut : List Bool) : Type 0 where
    pub nodes_are : nodes ≡ nodes_from charter 0 (journals_of nodes)
    pub sound : IsSoundWorld t fits winner (record { charter = charter; journals = journals_of nodes; cut = cut })

-- the invariant of a world: it is sound, and of the charter whose owners go into its reports
pub record IsTold {E S M : Type 0} (t : E → Table S M) (fits : E → Fitting M) (winner : E → List ℕ → ℕ) (charter : Charter E) (world : Running E M) : Type 0 where
  pub charter_is : charter ≡ world.charter
  pub sound : IsSoundWorld t fits winner world
