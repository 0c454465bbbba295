-- One of the packets that the port holds.
use Rattle.ring_node.proofs.Steps.{sendable_at}
use Rattle.ring_node.proofs.node.Node.packet.Goals as goal

pub returns-clause-sendable : goal.returns-clause-sendable
returns-clause-sendable g c =
    sendable_at _ _ _ _ _ _ c.args.place c.port.ensures.sendable c.nth.result (rw c.port.ensures.port.sent_is at c.nth.ensures)
