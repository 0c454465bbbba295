use Rattle.std.proofs.Common.{subst}
use Rattle.ring_any.specs.Any.{any_winner}
use Rattle.ring_terms.specs.Object.{OfGroup}
use Rattle.ring_terms.specs.Standings.{Tells}
use Rattle.ring_recovery.proofs.Winning.{wins}
use Rattle.ring_recovery.proofs.replay.named.Goals as goal

pub returns-in-Leader : goal.returns-in-Leader
returns-in-Leader c = λ charter running.
    wins any_winner c.args.book.now c.args.group c.args.member c.in-Leader.term c.in-Leader.leader charter c.len-count.ensures.kept
    (subst (λ said. OfGroup c.args.group (Tells c.args.member said) c.args.book.now) c.in-Leader.is c.in-Ok.ensures.1) running
