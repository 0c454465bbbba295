-- An envelope is handed over after the turn to its term.
use Rattle.std.proofs.Common.{◌≡◌, true, false, [], refl, subst}
use Rattle.std.proofs.lemmas.Result.{err_from_is_err_and}
use Rattle.ring_node.specs.declared.charter.Charter.{Charter}
use Rattle.ring_workers.specs.Holdings.{charters_of}
use Rattle.ring_workers.specs.private.Holdings.{IsOlder, Steps}
use Rattle.ring_workers.proofs.GroupSteps.{steps_before, steps_on}
use Rattle.ring_workers.proofs.nodes.Nodes.hand_over.Goals as goal

pub returns-in_err-report : goal.returns-in_err-report
returns-in_err-report g c =
    let p = err_from_is_err_and c.from_residual.result c.from_residual.ensures.1 in
    rw (p.1, p.2)
    (record {
      steps = steps_on g.E.RingElection.table c.args.envelope.charter c.args.self.now c.turn_to.new.self c.hand_over_at.new.self c.args.outbox.now.items c.args.outbox.now.items c.hand_over_at.new.outbox.items
          (steps_before g.E.RingElection.table c.args.envelope.charter c.args.self.now c.turn_to.new.self c.args.outbox.now.items
          (subst (λ (d : Charter _). Steps g.E.RingElection.table d c.args.self.now c.turn_to.new.self [] []) c.charter.ensures c.turn_to.ensures.steps))
          c.hand_over_at.ensures.steps;
      fate = tt;
      back = c.in_err-report.ensures.back;
    })

pub returns-in-Ok-None : goal.returns-in-Ok-None
returns-in-Ok-None g c = record {
  steps = steps_before g.E.RingElection.table c.args.envelope.charter c.args.self.now c.turn_to.new.self c.args.outbox.now.items
      (subst (λ (d : Charter _). Steps g.E.RingElection.table d c.args.self.now c.turn_to.new.self [] []) c.charter.ensures c.turn_to.ensures.steps);
  fate = subst (λ (d : Charter _). IsOlder (charters_of c.args.self.now) d) c.charter.ensures (rw c.in-Ok-None.field-0-is at c.in-Ok-None.ensures.place);
  back = tt;
}

pub returns-in-Err : goal.returns-in-Err
returns-in-Err g c = record {
  steps = steps_before g.E.RingElection.table c.args.envelope.charter c.args.self.now c.turn_to.new.self c.args.outbox.now.items
      (subst (λ (d : Charter _). Steps g.E.RingElection.table d c.args.self.now c.turn_to.new.self [] []) c.charter.ensures c.turn_to.ensures.steps);
  fate = tt;
  back = refl;
}

pub returns-in-true-default : goal.returns-in-true-default
returns-in-true-default g c = record {
  steps = steps_on g.E.RingElection.table c.args.envelope.charter c.args.self.now c.turn_to.new.self c.hand_over_at.new.self c.args.outbox.now.items c.args.outbox.now.items c.hand_over_at.new.outbox.items
      (steps_before g.E.RingElection.table c.args.envelope.charter c.args.self.now c.turn_to.new.self c.args.outbox.now.items
      (subst (λ (d : Charter _). Steps g.E.RingElection.table d c.args.self.now c.turn_to.new.self [] []) c.charter.ensures c.turn_to.ensures.steps))
      c.hand_over_at.ensures.steps;
  fate = let own : c.in_ok-report.field-0.0 ≡ true = cc in
      c.in_ok-report.ensures.received own;
  back = tt;
}

pub returns-in-false-default : goal.returns-in-false-default
returns-in-false-default g c = record {
  steps = steps_on g.E.RingElection.table c.args.envelope.charter c.args.self.now c.turn_to.new.self c.hand_over_at.new.self c.args.outbox.now.items c.args.outbox.now.items c.hand_over_at.new.outbox.items
      (steps_before g.E.RingElection.table c.args.envelope.charter c.args.self.now c.turn_to.new.self c.args.outbox.now.items
      (subst (λ (d : Charter _). Steps g.E.RingElection.table d c.args.self.now c.turn_to.new.self [] []) c.charter.ensures c.turn_to.ensures.steps))
      c.hand_over_at.ensures.steps;
  fate = let no : c.in_ok-report.field-0.0 ≡ false = cc in
      c.in_ok-report.ensures.strange no;
  back = tt;
}
