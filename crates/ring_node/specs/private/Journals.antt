-- Packets and places among them, for inner functions of a node.
use Rattle.std.specs.Prelude.{◌+◌, ℕ, suc, List, [], ◌∷◌, ◌++◌, Option, Some, None, option_map}
use Rattle.ring_node.specs.declared.packet.Packet.{Packet}
use Rattle.ring_node.specs.declared.packet.Packet.TheVariants.{Algo, Leader}
use Rattle.ring_node.specs.Journals.{kept_or}

-- the algorithm's message in a packet, if there is one
abbrev pub algo_of : {M : Type 0} → Packet M → List M
algo_of (Algo m) = m ∷ []
algo_of (Leader v) = []

-- the algorithm's messages among packets
abbrev pub algos_of : {M : Type 0} → List (Packet M) → List M
algos_of [] = []
algos_of (p ∷ ps) = algo_of p ++ algos_of ps

-- the place of the last announcement among packets, if there is one
abbrev pub leader_place : {M : Type 0} → List (Packet M) → Option ℕ
leader_place [] = None
leader_place (Algo m ∷ ps) = option_map suc (leader_place ps)
leader_place (Leader v ∷ ps) = kept_or (option_map suc (leader_place ps)) (Some 0)
