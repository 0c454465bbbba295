-- PacketKinds of packets: the messages of the algorithm, and the announcements of the leader.
use Rattle.std.specs.Prelude.{Bool, true, false, List}
use Rattle.std.specs.List.{filter}
use Rattle.ring_node.specs.declared.packet.Packet.{Packet}
use Rattle.ring_node.specs.declared.packet.Packet.TheVariants.{Algo, Leader}
use Rattle.ring_world.specs.declared.packet_kind.PacketKind.{PacketKind}
use Rattle.ring_world.specs.declared.packet_kind.PacketKind.TheVariants.{Message, Announcement}

-- whether a packet is of this kind
abbrev pub is_of : {M : Type 0} → PacketKind → Packet M → Bool
is_of Message (Algo m) = true
is_of Message (Leader v) = false
is_of Announcement (Algo m) = false
is_of Announcement (Leader v) = true

-- the packets of this kind, in their order
abbrev pub of_kind : {M : Type 0} → PacketKind → List (Packet M) → List (Packet M)
of_kind kind packets = filter (is_of kind) packets
