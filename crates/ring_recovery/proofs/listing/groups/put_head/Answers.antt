use Rattle.std.proofs.lemmas.Grind.{common_steps}
use Rattle.std.proofs.Common.{arith}
use Rattle.ring_recovery.proofs.listing.groups.put_head.Goals as goal

pub returns : goal.returns
returns c = grind (arith, common_steps)
