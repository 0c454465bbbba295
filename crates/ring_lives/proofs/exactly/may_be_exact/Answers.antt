use Rattle.ring_lives.proofs.Beginning.{may_be_exact}
use Rattle.ring_lives.proofs.exactly.may_be_exact.Goals as goal

pub returns : goal.returns
returns g c = may_be_exact g.E.RingElection.is_two_way g.E.RingElection.is_greatest
