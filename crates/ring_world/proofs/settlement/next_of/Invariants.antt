use Rattle.std.proofs.Common.{◌≡◌, drop}
use Rattle.ring_node.specs.Nodes.{sent_of}
use Rattle.ring_world.specs.PacketKinds.{of_kind}
use Rattle.ring_world.proofs.settlement.next_of.Given as goal

-- no packet of the kind stands between the first place and this one
abbrev pub invariant-loop-place : goal.invariant-loop-place
invariant-loop-place g l =
    of_kind l.kind (drop l.from (sent_of g.E.RingElection.table l.node l.side)) ≡ of_kind l.kind (drop l.place (sent_of g.E.RingElection.table l.node l.side))
