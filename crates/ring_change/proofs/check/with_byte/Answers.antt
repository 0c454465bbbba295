use Rattle.std.proofs.Common.{rules}
use Rattle.ring_change.proofs.check.with_byte.Goals as goal

pub returns : goal.returns
returns c = search rules
