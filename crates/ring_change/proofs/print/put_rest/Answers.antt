use Rattle.std.proofs.Common.{rules}
use Rattle.ring_change.proofs.print.put_rest.Goals as goal

pub returns-in-Know-clause-ok : goal.returns-in-Know-clause-ok
returns-in-Know-clause-ok g c = search rules
