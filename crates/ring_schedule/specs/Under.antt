-- The traffic of one algorithm, seen as that of a sum: its charter names the kind, and each message
-- is put into the sum.
use Rattle.std.specs.Prelude.{List, map}
use Rattle.ring_id.specs.declared.side.Side.{Side}
use Rattle.ring_node.specs.declared.charter.Charter.{Charter}
use Rattle.ring_node.specs.declared.packet.Packet.{Packet}
use Rattle.ring_node.specs.declared.packet.Packet.TheVariants.{Algo, Leader}
use Rattle.ring_any.specs.Variants.{Variant}
use Rattle.ring_world.specs.Worlds.{Running}

-- a packet, its message put into the sum
abbrev pub put_packet : {W P : Type 0} → Variant W P → Packet P → Packet W
put_packet messages (Algo m) = Algo (messages.put m)
put_packet messages (Leader v) = Leader v

-- a receipt of such a packet
abbrev pub put_receipt : {W P : Type 0} → Variant W P → Side × Packet P → Side × Packet W
put_receipt messages r = (r.0, put_packet messages r.1)

-- a journal of such receipts
abbrev pub put_journal : {W P : Type 0} → Variant W P → List (Side × Packet P) → List (Side × Packet W)
put_journal messages journal = map (put_receipt messages) journal

-- the charter of the same term and ring, which this algorithm decides
abbrev pub charter_under : {E F : Type 0} → F → Charter E → Charter F
charter_under kind charter = record { group = charter.group; term = charter.term; algorithm = kind; roster = charter.roster }

-- the same traffic, under a kind of the sum
abbrev pub running_under : {E F W P : Type 0} → F → Variant W P → Running E P → Running F W
running_under kind messages running = record { charter = charter_under kind running.charter; journals = map (put_journal messages) running.journals; cut = running.cut }
