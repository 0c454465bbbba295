use Rattle.test_cases.specs.Deliveries.{DeliversTimes}
use Rattle.test_cases.proofs.drains.drain.Given as goal

-- the deliveries that were made
abbrev pub invariant-loop-done : goal.invariant-loop-done
invariant-loop-done g l = DeliversTimes g.E.RingElection.table l.done l.fn.world l.world
