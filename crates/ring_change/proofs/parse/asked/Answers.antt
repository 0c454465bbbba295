use Rattle.std.proofs.Common.{rules}
use Rattle.ring_change.proofs.parse.asked.Goals as goal

pub returns-in-Start : goal.returns-in-Start
returns-in-Start c = search rules
