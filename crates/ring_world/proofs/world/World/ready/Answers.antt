-- Where no link is ready the world is quiet, and so every node knows if no link is cut.
use Rattle.ring_world.proofs.Quiet.{ready_knows}
use Rattle.ring_world.proofs.world.World.ready.Goals as goal

pub returns-clause-quiet : goal.returns-clause-quiet
returns-clause-quiet g c =
    let kept = rw c.self.view_is at c.self.invariant in
    let world = c.args.self.now in
    ready_knows g.E.RingElection.table g.E.RingElection.fits g.E.RingElection.winner world
    (g.met.E.RingElection.deciding world.charter.algorithm)
    (g.met.E.RingElection.lawful world.charter.algorithm).start_undecided
    kept.sound c.ready.result (rw c.self.view_is at c.ready.ensures)

pub returns-clause-sound : goal.returns-clause-sound
returns-clause-sound g c = let kept = rw c.self.view_is at c.self.invariant in kept.sound
