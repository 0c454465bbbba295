-- A message past the next index leaves a gap.
use Rattle.std.proofs.Common.{rules}
use Rattle.ring_node.proofs.node.Node.fault_of.Goals as goal

pub returns-in-Algo-2 : goal.returns-in-Algo-2
returns-in-Algo-2 g c = (
  search rules,
  rw (← c.packet-packet.ensures.value, c.in-Algo-2.is, ← c.index-index.ensures, ← c.side-2.ensures, ← c.other.ensures, ← c.port-port.ensures.port.algos_is) c.if-index-port-2.true,
)
