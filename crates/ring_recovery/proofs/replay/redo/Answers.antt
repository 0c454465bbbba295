use Rattle.std.proofs.Common.{rules}
use Rattle.ring_recovery.proofs.replay.redo.Goals as goal

pub returns-clause-ok : goal.returns-clause-ok
returns-clause-ok c = search rules
