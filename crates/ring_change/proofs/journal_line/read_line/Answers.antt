use Rattle.std.proofs.Common.{rules}
use Rattle.ring_change.proofs.journal_line.read_line.Goals as goal

pub returns-clause-some : goal.returns-clause-some
returns-clause-some c = search rules
