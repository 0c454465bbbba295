use Rattle.std.proofs.Common.{rules}
use Rattle.ring_recovery.proofs.heading.after_words.Goals as goal

pub returns-clause-some : goal.returns-clause-some
returns-clause-some c = search rules
