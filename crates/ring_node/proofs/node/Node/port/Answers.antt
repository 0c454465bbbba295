-- Every packet is of one sort, and no more is taken from a side than is received.
use Rattle.std.proofs.Common.{arith}
use Rattle.std.proofs.lemmas.Option.{get_or_from_slice_get}
use Rattle.ring_id.specs.declared.side.Side.TheVariants.{Left, Right}
use Rattle.ring_election.specs.Traces.{taken_from}
use Rattle.ring_node.proofs.Receipts.{counts-length, length-taken_from}
use Rattle.ring_node.proofs.Steps.{sent_sendable}
use Rattle.ring_node.proofs.node.Node.port.Goals as goal

pub returns-in-Left-clause-few : goal.returns-in-Left-clause-few
returns-in-Left-clause-few g c =
    let journal = c.self.inside.journal in
    let is = c.self.invariant.left_is in
    omega (arith, is.algos_is, is.leaders_is, counts-length (taken_from Left journal.items), length-taken_from Left journal.items, journal.ok.0, journal.ok.1, journal.small)

pub returns-in-Right-clause-few : goal.returns-in-Right-clause-few
returns-in-Right-clause-few g c =
    let journal = c.self.inside.journal in
    let is = c.self.invariant.right_is in
    omega (arith, is.algos_is, is.leaders_is, counts-length (taken_from Right journal.items), length-taken_from Right journal.items, journal.ok.0, journal.ok.1, journal.small)

pub returns-in-Right-clause-port : goal.returns-in-Right-clause-port
returns-in-Right-clause-port g c =
    rw (← c.self.view_is, c.in-Right.is, get_or_from_slice_get _ _ _ 0 c.self.invariant.here) c.self.invariant.right_is

pub returns-in-Left-clause-sendable : goal.returns-in-Left-clause-sendable
returns-in-Left-clause-sendable g c =
    let lawful = g.met.E.RingElection.lawful c.self.inside.charter.value.algorithm in
    rw (← c.self.view_is, c.in-Left.is, get_or_from_slice_get _ _ _ 0 c.self.invariant.here)
    (sent_sendable _ _ _ lawful _ _ _ _ _ _ _ _ c.self.invariant Left Left)

pub returns-in-Right-clause-sendable : goal.returns-in-Right-clause-sendable
returns-in-Right-clause-sendable g c =
    let lawful = g.met.E.RingElection.lawful c.self.inside.charter.value.algorithm in
    rw (← c.self.view_is, c.in-Right.is, get_or_from_slice_get _ _ _ 0 c.self.invariant.here)
    (sent_sendable _ _ _ lawful _ _ _ _ _ _ _ _ c.self.invariant Right Right)

pub returns-in-Left-clause-port : goal.returns-in-Left-clause-port
returns-in-Left-clause-port g c =
    rw (← c.self.view_is, c.in-Left.is, get_or_from_slice_get _ _ _ 0 c.self.invariant.here) c.self.invariant.left_is
