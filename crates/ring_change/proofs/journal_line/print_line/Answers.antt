use Rattle.std.proofs.Common.{rules}
use Rattle.ring_change.proofs.journal_line.print_line.Goals as goal

pub returns-clause-err : goal.returns-clause-err
returns-clause-err g c = search rules
