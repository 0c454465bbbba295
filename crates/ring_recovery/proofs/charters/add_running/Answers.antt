use Rattle.std.proofs.lemmas.Grind.{common_steps}
use Rattle.std.proofs.Common.{arith}
use Rattle.ring_recovery.proofs.charters.add_running.Goals as goal

pub returns : goal.returns
returns g c = grind (arith, common_steps)
