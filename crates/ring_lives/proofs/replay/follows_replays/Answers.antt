use Rattle.ring_lives.proofs.Replaying.{follows_replays}
use Rattle.ring_lives.proofs.replay.follows_replays.Goals as goal

pub returns : goal.returns
returns g c = follows_replays g.E.RingElection.is_two_way g.E.RingElection.is_greatest
