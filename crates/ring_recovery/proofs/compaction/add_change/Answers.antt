use Rattle.std.proofs.Common.{rules}
use Rattle.ring_recovery.proofs.compaction.add_change.Goals as goal

pub returns-in-Ok : goal.returns-in-Ok
returns-in-Ok c = search rules
