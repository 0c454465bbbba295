-- Each fault is one of the lines.
use Rattle.ringd.proofs.Replaying.{of_lines}
use Rattle.ringd.proofs.run.replay.Goals as goal

pub returns : goal.returns
returns g c = of_lines _ _ _ c.replay_ends.result c.replay_ends.ensures
