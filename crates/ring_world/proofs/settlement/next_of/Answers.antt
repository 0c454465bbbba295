-- A packet of the kind is the next one; another is passed over.
use Rattle.std.proofs.Common.{refl, sym, ◌∙◌, arith}
use Rattle.std.proofs.lemmas.Option.{slice_get_past}
use Rattle.ring_node.specs.Nodes.{sent_of}
use Rattle.ring_world.proofs.Settlements.{of_kind_here, of_kind_none, of_kind_past}
use Rattle.ring_world.proofs.settlement.next_of.Goals as goal

pub loop-place-init : goal.loop-place-init
loop-place-init g c = refl

pub returns-in_default-clause-next : goal.returns-in_default-clause-next
returns-in_default-clause-next g c =
    c.loop-place.invariant
    ∙ of_kind_none c.args.kind (sent_of g.E.RingElection.table c.args.node.now c.args.side) c.loop-place.place (sym c.packet.ensures.value ∙ c.in_default.is)

pub returns-then-has-clause-few : goal.returns-then-has-clause-few
returns-then-has-clause-few g c = omega (arith, c.loop-place-test.true, c.sent-place-end.type_inv)

pub returns-then-has-clause-next : goal.returns-then-has-clause-next
returns-then-has-clause-next g c =
    c.loop-place.invariant
    ∙ of_kind_here c.args.kind (sent_of g.E.RingElection.table c.args.node.now c.args.side) c.loop-place.place c.in-Some.packet (sym c.in-Some.ensures.value) (sym c.if-has.ensures)

pub loop-place-preserved : goal.loop-place-preserved
loop-place-preserved g c =
    c.loop-place.invariant
    ∙ of_kind_past c.args.kind (sent_of g.E.RingElection.table c.args.node.now c.args.side) c.loop-place.place c.in-Some.packet (sym c.in-Some.ensures.value) (sym c.if-has.ensures)

pub returns-clause-next : goal.returns-clause-next
returns-clause-next g c =
    let past = slice_get_past (sent_of g.E.RingElection.table c.args.node.now c.args.side) c.loop-place.place (omega (arith, c.loop-place-test.false, c.sent-place-end.ensures)) in
    c.loop-place.invariant ∙ of_kind_none c.args.kind (sent_of g.E.RingElection.table c.args.node.now c.args.side) c.loop-place.place past
