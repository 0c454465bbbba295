-- Below the greatest number the next is one more.
use Rattle.std.proofs.Common.{rules}
use Rattle.ring_accept.proofs.serving.number_after.Goals as goal

pub returns-else-last-eq4294967295 : goal.returns-else-last-eq4294967295
returns-else-last-eq4294967295 c = search rules
