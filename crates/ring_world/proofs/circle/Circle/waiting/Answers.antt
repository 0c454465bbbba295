-- What the sender has sent and the receiver hasn't taken stands on the link.
use Rattle.std.proofs.Common.{length, ap, sym, arith, length-append, length-drop}
use Rattle.ring_world.specs.Worlds.{on_link, sent_into, taken_at}
use Rattle.ring_world.proofs.circle.Circle.waiting.Goals as goal

pub returns-clause-value : goal.returns-clause-value
returns-clause-value g c =
    let world = c.args.self.now in
    let sender = rw c.neighbour.ensures.value at c.node-sender.ensures.node in
    let sent = rw (c.other.ensures, sender) at c.sent.ensures in
    let taken = rw c.node.ensures.node at c.taken.ensures in
    rw (sent, taken) (sym (length-drop (length (taken_at g.E.RingElection.table world c.args.position c.args.side)) (sent_into g.E.RingElection.table world c.args.position c.args.side)))

pub returns-clause-inside : goal.returns-clause-inside
returns-clause-inside g c = omega (arith, c.requires, c.node.ensures.sound.is_ring.short)

pub overflow_sub-result : goal.overflow_sub-result
overflow_sub-result g c =
    let world = c.args.self.now in
    let sender = rw c.neighbour.ensures.value at c.node-sender.ensures.node in
    let sent = rw (c.other.ensures, sender) at c.sent.ensures in
    let taken = rw c.node.ensures.node at c.taken.ensures in
    let first = taken_at g.E.RingElection.table world c.args.position c.args.side in
    let rest = on_link g.E.RingElection.table world c.args.position c.args.side in
    let whole = ap length (c.node.ensures.sound.links.taken_first c.args.position c.args.side c.requires) in
    omega (arith, sent, taken, whole, length-append first rest)
