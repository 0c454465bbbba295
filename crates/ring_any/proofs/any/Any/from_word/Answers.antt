-- A text that is Chang's word is no other kind's.
use Rattle.std.proofs.Common.{rules}
use Rattle.ring_any.proofs.any.Any.from_word.Goals as goal

pub returns-then-eq-2 : goal.returns-then-eq-2
returns-then-eq-2 c = search rules
