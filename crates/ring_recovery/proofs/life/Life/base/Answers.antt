use Rattle.std.proofs.Common.{rules}
use Rattle.ring_recovery.proofs.life.Life.base.Goals as goal

pub returns-clause-value : goal.returns-clause-value
returns-clause-value c = search rules
