-- What the sender has sent and the receiver hasn't taken stands on the link, its front first.
use Rattle.std.proofs.Common.{◌==◌, ℕ, length, ap, sym, ◌∙◌, arith, length-drop}
use Rattle.std.proofs.lemmas.Option.{slice_get_within}
use Rattle.ring_id.specs.Sides.{other}
use Rattle.ring_roster.specs.Ring.{neighbour}
use Rattle.ring_node.specs.Nodes.{sent_of}
use Rattle.ring_world.specs.Worlds.{sent_into, size_of, taken_at}
use Rattle.ring_world.proofs.Links.{front_proper, slice_get-drop}
use Rattle.ring_world.proofs.circle.Circle.front.Goals as goal

pub neighbour-requires : goal.neighbour-requires
neighbour-requires g c = c.requires

pub node-sender-requires : goal.node-sender-requires
node-sender-requires g c = c.neighbour.ensures.inside

pub node-requires : goal.node-requires
node-requires g c = c.requires

pub returns-in_default-clause-value : goal.returns-in_default-clause-value
returns-in_default-clause-value g c =
    let sender = rw c.neighbour.ensures.value at c.node-sender.ensures.node in
    let front = rw (c.taken-taken.ensures, c.other-to.ensures, sender, c.node.ensures.node) at c.packet.ensures.value in
    sym c.in_default.is ∙ front ∙ sym (slice_get-drop (length (taken_at g.E.RingElection.table c.args.self.now c.args.position c.args.side)) (sent_into g.E.RingElection.table c.args.self.now c.args.position c.args.side))

pub overflow_sub-result : goal.overflow_sub-result
overflow_sub-result g c =
    let sent = rw c.other-to.ensures at c.sent.ensures in
    let front = rw c.other-to.ensures at c.packet.ensures.value in
    let within = slice_get_within (sent_of g.E.RingElection.table c.node-sender.result.now (other c.args.side)) c.taken-taken.result c.in-Some.packet (sym front ∙ c.in-Some.is) in
    omega (arith, within, sent)

pub returns-clause-value : goal.returns-clause-value
returns-clause-value g c =
    let sender = rw c.neighbour.ensures.value at c.node-sender.ensures.node in
    let front = rw (c.taken-taken.ensures, c.other-to.ensures, sender, c.node.ensures.node) at c.packet.ensures.value in
    sym c.in-Some.is ∙ front ∙ sym (slice_get-drop (length (taken_at g.E.RingElection.table c.args.self.now c.args.position c.args.side)) (sent_into g.E.RingElection.table c.args.self.now c.args.position c.args.side))

pub returns-clause-last : goal.returns-clause-last
returns-clause-last g c =
    let world = c.args.self.now in
    let sender = rw c.neighbour.ensures.value at c.node-sender.ensures.node in
    let sent = rw (c.other-to.ensures, sender) at c.sent.ensures in
    let taken = rw c.node.ensures.node at c.taken-taken.ensures in
    let stands = length-drop (length (taken_at g.E.RingElection.table world c.args.position c.args.side)) (sent_into g.E.RingElection.table world c.args.position c.args.side) in
    rw (sent, taken) (ap (λ (n : ℕ). n == 1) (sym stands))

pub returns-clause-proper : goal.returns-clause-proper
returns-clause-proper g c =
    let world = c.args.self.now in
    let position = c.args.position in
    let side = c.args.side in
    let sender = rw c.neighbour.ensures.value at c.node-sender.ensures.node in
    let sent = rw (c.taken-taken.ensures, c.other-to.ensures, sender, c.node.ensures.node) at c.in-Some.ensures.sendable in
    front_proper (g.E.RingElection.fits world.charter.algorithm) (g.E.RingElection.winner world.charter.algorithm) world.charter.roster (neighbour (size_of world) position side) (other side) (taken_at g.E.RingElection.table world position side) (sent_into g.E.RingElection.table world position side) c.in-Some.packet
    (c.node.ensures.sound.links.taken_first position side c.requires) sent.proper
