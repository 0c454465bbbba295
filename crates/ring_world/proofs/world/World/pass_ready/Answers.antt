-- The world after the passages is sound and of the same charter, and so its work is bounded.
use Rattle.std.proofs.Common.{◌∙◌, sym}
use Rattle.ring_world.proofs.Passing.{ready_charter}
use Rattle.ring_world.proofs.Work.{work_bounded}
use Rattle.ring_world.proofs.world.World.pass_ready.Goals as goal

pub invariant_of-self : goal.invariant_of-self
invariant_of-self g c = record {
  charter_is = c.self.invariant.charter_is ∙ sym (ready_charter _ _ _ _ _ _ _ c.pass_ready.ensures.passes);
  sound = c.pass_ready.ensures.sound;
}

pub returns-clause-bounded : goal.returns-clause-bounded
returns-clause-bounded g c = work_bounded _ _ _ _ c.pass_ready.ensures.sound g.E.RingElection.bound (g.met.E.RingElection.bounded (g.T.Traffic.running c.pass_ready.new.self).charter.algorithm)
