use Rattle.std.proofs.Common.{◌-◌, ◌≤◌}
use Rattle.ring_mux.proofs.Passages.{HasDrainedAt}
use Rattle.ring_mux.proofs.deliveries.carry_many.Given as goal

-- the deliveries that were made, and that the world stands at its place
abbrev pub invariant-loop-done : goal.invariant-loop-done
invariant-loop-done g l = record {
  within : l.done ≤ l.count;
  made : HasDrainedAt g.E.RingElection.table g.E.RingElection.fits g.E.RingElection.winner g.E.RingElection.is_greatest l.place l.done l.fn.book l.fn.world l.book l.world;
}

-- those that are still to be made
abbrev pub decreases-loop-done : goal.decreases-loop-done
decreases-loop-done g l = l.count - l.done
