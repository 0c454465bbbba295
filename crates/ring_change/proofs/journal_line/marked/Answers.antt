use Rattle.std.proofs.Common.{rules}
use Rattle.ring_change.proofs.journal_line.marked.Goals as goal

pub returns : goal.returns
returns c = search rules
