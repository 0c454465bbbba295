use Rattle.std.proofs.Common.{rules}
use Rattle.ring_change.proofs.know.left.Goals as goal

pub returns-in-Leave : goal.returns-in-Leave
returns-in-Leave c = search rules
