-- The promises of inner functions on nodes that are settled.
use Rattle.std.specs.Prelude.{◌≡◌, ◌+◌, ℕ, List, [], ◌∷◌, drop, Option, Some, None, slice_get}
use Rattle.ring_election.specs.Tables.{Table}
use Rattle.ring_election.specs.Families.{Fitting}
use Rattle.ring_node.specs.declared.packet.Packet.{Packet}
use Rattle.ring_node.specs.Nodes.{IsFaithful, Seated}
use Rattle.ring_world.specs.declared.packet_kind.PacketKind.{PacketKind}
use Rattle.ring_world.specs.PacketKinds.{of_kind}

module _ {E S M : Type 0} (t : E → Table S M) where
  -- the invariant of each of these nodes
  pub record AllFaithful (fits : E → Fitting M) (winner : E → List ℕ → ℕ) (nodes : List (Seated E M)) : Type 0 where
    pub each : (k : ℕ) (node : Seated E M) → slice_get nodes k ≡ Some node → IsFaithful t fits winner node

-- the first packet of this kind from a place on, with its place, if there is one
abbrev pub IsNextOf : {M : Type 0} → PacketKind → List (Packet M) → ℕ → Option (ℕ × Packet M) → Type 0
IsNextOf kind packets from None = of_kind kind (drop from packets) ≡ []
IsNextOf kind packets from (Some next) = of_kind kind (drop from packets) ≡ next.1 ∷ of_kind kind (drop (next.0 + 1) packets)
