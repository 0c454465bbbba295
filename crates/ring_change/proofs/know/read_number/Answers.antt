use Rattle.std.proofs.Common.{rules}
use Rattle.ring_change.proofs.know.read_number.Goals as goal

pub returns-in-None-clause-some : goal.returns-in-None-clause-some
returns-in-None-clause-some c = search rules
