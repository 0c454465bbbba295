use Rattle.std.proofs.Common.{subst}
use Rattle.ring_turn.specs.private.Seats.{IsHanded}
use Rattle.ring_turn.proofs.Turning.{idle_after}
use Rattle.ring_turn.proofs.turn.put_back.Goals as goal

pub returns-in-Some-clause-idle : goal.returns-in-Some-clause-idle
returns-in-Some-clause-idle g c = idle_after _ _ _ (subst (λ hand. IsHanded hand c.args.token.now.me) c.in-Some.is c.requires.seat) c.leave.ensures.left
