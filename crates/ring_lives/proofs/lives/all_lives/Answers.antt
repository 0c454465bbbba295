use Rattle.ring_lives.proofs.Joining.{one_run}
use Rattle.ring_lives.proofs.lives.all_lives.Goals as goal

pub returns : goal.returns
returns g c = one_run g.E.RingElection.is_two_way g.E.RingElection.is_greatest
