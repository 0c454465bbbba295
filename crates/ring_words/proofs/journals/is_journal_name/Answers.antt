use Rattle.std.proofs.Common.{rules}
use Rattle.ring_words.proofs.journals.is_journal_name.Goals as goal

pub returns-then-name-le-LONGEST : goal.returns-then-name-le-LONGEST
returns-then-name-le-LONGEST c = search rules
