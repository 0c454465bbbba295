use Rattle.std.proofs.Common.{rules}
use Rattle.ring_recovery.proofs.replay.report_of.Goals as goal

pub new-requires-clause-truthful : goal.new-requires-clause-truthful
new-requires-clause-truthful c = search rules

pub returns-clause-ok : goal.returns-clause-ok
returns-clause-ok c = search rules
