use Rattle.std.proofs.Common.{rules}
use Rattle.ring_recovery.proofs.replay.know.Goals as goal

pub returns-in-Known-clause-ok : goal.returns-in-Known-clause-ok
returns-in-Known-clause-ok c = search rules
