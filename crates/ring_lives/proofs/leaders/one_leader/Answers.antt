use Rattle.ring_lives.proofs.Joining.{told_one_leader}
use Rattle.ring_lives.proofs.leaders.one_leader.Goals as goal

pub returns : goal.returns
returns g c = told_one_leader g.E.RingElection.is_two_way g.E.RingElection.is_greatest
