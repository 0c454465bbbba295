-- A charter begins after the turn to its term.
use Rattle.ring_workers.proofs.GroupSteps.{steps_before, steps_on}
use Rattle.ring_workers.proofs.nodes.Nodes.begin.Goals as goal

pub returns-in_err-begin_at-clause-steps : goal.returns-in_err-begin_at-clause-steps
returns-in_err-begin_at-clause-steps g c =
    steps_on g.E.RingElection.table c.args.charter.now.value c.args.self.now c.turn_to.new.self c.begin_at.new.self c.args.outbox.now.items c.args.outbox.now.items c.begin_at.new.outbox.items
    (steps_before g.E.RingElection.table c.args.charter.now.value c.args.self.now c.turn_to.new.self c.args.outbox.now.items c.turn_to.ensures.steps)
    c.begin_at.ensures.steps

pub returns-in-true-clause-steps : goal.returns-in-true-clause-steps
returns-in-true-clause-steps g c =
    steps_on g.E.RingElection.table c.args.charter.now.value c.args.self.now c.turn_to.new.self c.begin_at.new.self c.args.outbox.now.items c.args.outbox.now.items c.begin_at.new.outbox.items
    (steps_before g.E.RingElection.table c.args.charter.now.value c.args.self.now c.turn_to.new.self c.args.outbox.now.items c.turn_to.ensures.steps)
    c.begin_at.ensures.steps

pub returns-in-false-clause-steps : goal.returns-in-false-clause-steps
returns-in-false-clause-steps g c =
    steps_on g.E.RingElection.table c.args.charter.now.value c.args.self.now c.turn_to.new.self c.begin_at.new.self c.args.outbox.now.items c.args.outbox.now.items c.begin_at.new.outbox.items
    (steps_before g.E.RingElection.table c.args.charter.now.value c.args.self.now c.turn_to.new.self c.args.outbox.now.items c.turn_to.ensures.steps)
    c.begin_at.ensures.steps

pub returns-in-true-clause-fate : goal.returns-in-true-clause-fate
returns-in-true-clause-fate g c = c.in_ok-begin_at.ensures.seated c.in-true.is

pub begin_at-requires : goal.begin_at-requires
begin_at-requires g c = rw c.in-Some.is at c.in_ok-place.ensures.place

pub returns-in_default-clause-fate : goal.returns-in_default-clause-fate
returns-in_default-clause-fate g c = rw c.in_default.is at c.in_ok-place.ensures.place

pub returns-in_default-clause-steps : goal.returns-in_default-clause-steps
returns-in_default-clause-steps g c = steps_before g.E.RingElection.table c.args.charter.now.value c.args.self.now c.turn_to.new.self c.args.outbox.now.items c.turn_to.ensures.steps

pub returns-in_err-place-clause-steps : goal.returns-in_err-place-clause-steps
returns-in_err-place-clause-steps g c = steps_before g.E.RingElection.table c.args.charter.now.value c.args.self.now c.turn_to.new.self c.args.outbox.now.items c.turn_to.ensures.steps

pub returns-in-false-clause-fate : goal.returns-in-false-clause-fate
returns-in-false-clause-fate g c = c.in_ok-begin_at.ensures.strange c.in-false.is
