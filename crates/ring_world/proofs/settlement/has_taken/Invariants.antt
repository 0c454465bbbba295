use Rattle.std.proofs.Common.{◌≡◌, ◌↔◌, drop}
use Rattle.ring_election.specs.Traces.{taken_from}
use Rattle.ring_id.specs.Sides.{other}
use Rattle.ring_node.specs.Nodes.{sent_of, taken_of}
use Rattle.ring_world.specs.PacketKinds.{of_kind}
use Rattle.ring_world.proofs.settlement.has_taken.Given as goal

-- the packets of the kind are the same exactly where those that are left are
abbrev pub invariant-loop-receipt : goal.invariant-loop-receipt
invariant-loop-receipt g l =
    (of_kind l.kind (taken_of l.node l.side) ≡ of_kind l.kind (sent_of g.E.RingElection.table l.sender (other l.side)))
    ↔ (of_kind l.kind (taken_from l.side (drop l.receipt-index l.receipts)) ≡ of_kind l.kind (drop l.next (sent_of g.E.RingElection.table l.sender (other l.side))))
