use Rattle.ring_recovery.specs.JournalLines.{life_word}
use Rattle.ring_recovery.proofs.heading.read_heading.Goals as goal

pub returns-in-None-clause-none : goal.returns-in-None-clause-none
returns-in-None-clause-none c = λ life counted is. c.in-None.ensures.none (life_word life) is
