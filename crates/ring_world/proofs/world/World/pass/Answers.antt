-- The world after the passage is sound, and so its work is bounded.
use Rattle.ring_world.proofs.Work.{work_bounded}
use Rattle.ring_world.proofs.world.World.pass.Goals as goal

pub returns-clause-bounded : goal.returns-clause-bounded
returns-clause-bounded g c = work_bounded _ _ _ _ c.pass.ensures.sound g.E.RingElection.bound (g.met.E.RingElection.bounded (g.T.Traffic.running c.pass.new.self).charter.algorithm)

-- The packet that passes is the one on the link that was asked for.
pub returns-clause-passes : goal.returns-clause-passes
returns-clause-passes g c = rw c.self.view_is at c.pass.ensures.passes
