use Rattle.ringd.proofs.Telling.{all_ran}
use Rattle.ringd.proofs.run.run_at.Goals as goal

pub returns : goal.returns
returns g c = all_ran _ _ c.args.first.now _ c.run_loop.result c.run_loop.ensures
