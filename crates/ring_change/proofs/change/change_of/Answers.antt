use Rattle.std.proofs.Common.{rules}
use Rattle.ring_change.proofs.change.change_of.Goals as goal

pub returns-in-Leave : goal.returns-in-Leave
returns-in-Leave g c = search rules
