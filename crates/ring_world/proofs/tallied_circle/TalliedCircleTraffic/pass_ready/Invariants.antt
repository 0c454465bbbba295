use Rattle.ring_world.specs.Worlds.{IsSoundWorld, PassesSilently}
use Rattle.ring_world.proofs.tallied_circle.TalliedCircleTraffic.pass_ready.Given as goal

-- the passages so far told no leader, and the world is sound
abbrev pub invariant-loop-done : goal.invariant-loop-done
invariant-loop-done g l = record {
  passed : PassesSilently g.E.RingElection.table g.E.RingElection.fits g.E.RingElection.winner l.fn.self l.done l.self;
  sound : IsSoundWorld g.E.RingElection.table g.E.RingElection.fits g.E.RingElection.winner l.self;
}
