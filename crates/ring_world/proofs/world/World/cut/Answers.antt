-- A link that is cut again is as it was.
use Rattle.ring_world.proofs.Cuts.{cuts_again}
use Rattle.ring_world.proofs.world.World.cut.Goals as goal

pub returns-clause-again : goal.returns-clause-again
returns-clause-again g c = λ cut. cuts_again c.args.self.now c.args.position c.args.side cut (g.E.RingElection.is_two_way c.args.self.now.charter.algorithm) c.cut.result (g.T.Traffic.running c.cut.new.self) (rw c.self.view_is at c.cut.ensures.cuts)
