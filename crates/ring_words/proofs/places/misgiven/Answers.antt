use Rattle.std.proofs.Common.{rules}
use Rattle.ring_words.proofs.places.misgiven.Goals as goal

pub returns-then-gives_journal : goal.returns-then-gives_journal
returns-then-gives_journal c = search rules
