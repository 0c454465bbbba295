use Rattle.std.proofs.Common.{rules}
use Rattle.ring_change.proofs.check.digit.Goals as goal

pub returns-else-number-lt10 : goal.returns-else-number-lt10
returns-else-number-lt10 c = search rules
