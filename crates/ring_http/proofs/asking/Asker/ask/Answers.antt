-- An answer whose place did not rise is none.
use Rattle.std.proofs.Common.{rules}
use Rattle.ring_http.proofs.Questions.{lacks_late}
use Rattle.ring_http.proofs.asking.Asker.ask.Goals as goal

pub returns-then-told-place-clause-err : goal.returns-then-told-place-clause-err
returns-then-told-place-clause-err g c = lacks_late _ _ _ _ _ c.requires.question c.in-Placed.ensures.entry.1

pub returns-else-told-place-clause-ok : goal.returns-else-told-place-clause-ok
returns-else-told-place-clause-ok g c = search rules

pub returns-else-told-place-clause-placed : goal.returns-else-told-place-clause-placed
returns-else-told-place-clause-placed g c = search rules
