use Rattle.std.proofs.Common.{rules}
use Rattle.ring_change.proofs.know.know_of_five.Goals as goal

pub returns : goal.returns
returns c = search rules
