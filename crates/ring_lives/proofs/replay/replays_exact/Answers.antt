use Rattle.ring_lives.proofs.Replaying.{replays_exact}
use Rattle.ring_lives.proofs.replay.replays_exact.Goals as goal

pub returns : goal.returns
returns g c = replays_exact g.E.RingElection.is_greatest
