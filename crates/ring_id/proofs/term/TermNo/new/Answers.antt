-- No term has the number 0, and none has one past 1000.
use Rattle.std.proofs.Common.{rules}
use Rattle.ring_id.proofs.term.TermNo.new.Goals as goal

pub returns-then-number-eq0-clause-there : goal.returns-then-number-eq0-clause-there
returns-then-number-eq0-clause-there c = search rules
