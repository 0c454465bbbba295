-- Want of memory says nothing of the text.
use Rattle.ring_config.proofs.reading.read_config.Goals as goal

pub returns-then-is_memory-clause-bad : goal.returns-then-is_memory-clause-bad
returns-then-is_memory-clause-bad c = λ bad config spells. cc
