-- A sound world's work is bounded.
use Rattle.ring_world.proofs.Work.{announcements_bounded, work_bounded}
use Rattle.ring_world.proofs.world.World+E.delivered.Goals as goal

pub returns-clause-bounded : goal.returns-clause-bounded
returns-clause-bounded g c =
    let kept = rw c.self.view_is at c.self.invariant in
    let counted = rw c.self.view_is at c.delivered.ensures in
    rw counted (work_bounded g.E.RingElection.table g.E.RingElection.fits g.E.RingElection.winner c.args.self.now kept.sound g.E.RingElection.bound (g.met.E.RingElection.bounded c.args.self.now.charter.algorithm))

pub returns-clause-announced : goal.returns-clause-announced
returns-clause-announced g c =
    let kept = rw c.self.view_is at c.self.invariant in
    announcements_bounded g.E.RingElection.table g.E.RingElection.fits g.E.RingElection.winner c.args.self.now kept.sound
