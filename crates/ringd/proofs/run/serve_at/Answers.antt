use Rattle.ring_accept.specs.Telling.{closed_line}
use Rattle.ringd.proofs.Telling.{all_served}
use Rattle.ringd.proofs.run.serve_at.Goals as goal

pub returns : goal.returns
returns g c = all_served _ _ _ c.args.first.now (closed_line c.args.connections) c.accept_loop.result c.accept_loop.ensures
