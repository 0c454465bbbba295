-- A node announces at most once, and there is an envelope if and only if there is a packet. Its
-- index counts the messages before it.
use Rattle.std.proofs.Common.{◌≡◌, ◌<◌, length, take, refl, ap, sym, ◌∙◌, arith}
use Rattle.std.proofs.lemmas.Option.{slice_get_within}
use Rattle.ring_node.specs.Envelopes.{index_after}
use Rattle.ring_node.specs.Nodes.{Seated, member_of, sent_of}
use Rattle.ring_node.proofs.Announcing.{announced_once}
use Rattle.ring_node.proofs.node.Node.envelope.Goals as goal
use Rattle.ring_node.proofs.node.Node.envelope.Goals.{in-Algo, in-Leader}

pub algos_before-index-requires-clause-once : goal.algos_before-index-requires-clause-once
algos_before-index-requires-clause-once g c =
    let node = c.args.self.now in
    rw c.port.ensures.port.sent_is (announced_once (g.E.RingElection.table node.charter.algorithm) (member_of node) c.args.side node.journal)

pub algos_before-index-requires-clause-within : goal.algos_before-index-requires-clause-within
algos_before-index-requires-clause-within g c =
    let within : c.args.place < length (sent_of g.E.RingElection.table c.args.self.now c.args.side) =
    slice_get_within _ _ _ (sym c.packet.ensures.value ∙ c.in_ok-packet.was) in
    omega (arith, within, ap length c.port.ensures.port.sent_is, c.port.result.now.sent.ok.0)

pub returns-in_err-packet : goal.returns-in_err-packet
returns-in_err-packet g c = rw (sym c.packet.ensures.value ∙ c.in_err-packet.was) c.from_residual.ensures

pub new-requires : goal.new-requires
new-requires g c =
    let sent = sent_of g.E.RingElection.table c.args.self.now c.args.side in
    let index_is : c.match-packet.index ≡ index_after (take c.args.place sent) c.in_ok-packet.packet = elim c.match-packet.branch [
      | in-Algo w ↦ rw w.in-Algo.is (cc)
      | in-Leader w ↦ rw w.in-Leader.is w.index-is
    ] in
    rw (c.requires, ap (λ (node : Seated g.row.E.Denot g.row.E-Msg.Denot). node.position) c.self.view_is, index_is) c.in_ok-packet.ensures.sendable

pub returns : goal.returns
returns g c =
    let sent = sent_of g.E.RingElection.table c.args.self.now c.args.side in
    let index_is : c.match-packet.index ≡ index_after (take c.args.place sent) c.in_ok-packet.packet = elim c.match-packet.branch [
      | in-Algo w ↦ rw w.in-Algo.is (cc)
      | in-Leader w ↦ rw w.in-Leader.is w.index-is
    ] in
    rw (← c.packet.ensures.value, c.in_ok-packet.was, c.new.ensures, c.requires, ap (λ (node : Seated g.row.E.Denot g.row.E-Msg.Denot). node.position) c.self.view_is, index_is) refl
