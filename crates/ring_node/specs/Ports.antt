-- The packets that a port sends.
use Rattle.std.specs.Prelude.{ℕ, List, [], ◌∷◌, Option, Some, None}
use Rattle.ring_node.specs.declared.packet.Packet.{Packet}
use Rattle.ring_node.specs.declared.packet.Packet.TheVariants.{Algo, Leader}

-- a message of the algorithm, if there is one
abbrev pub all_algos : {M : Type 0} → Option M → List (Packet M)
all_algos None = []
all_algos (Some m) = Algo m ∷ []

-- an announcement, if there is one
abbrev pub all_leaders : {M : Type 0} → Option ℕ → List (Packet M)
all_leaders None = []
all_leaders (Some v) = Leader v ∷ []
