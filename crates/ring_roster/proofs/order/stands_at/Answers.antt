-- The member at the position has the number that it has there.
use Rattle.std.proofs.Common.{rules}
use Rattle.ring_roster.proofs.order.stands_at.Goals as goal

pub returns-in-Some : goal.returns-in-Some
returns-in-Some c = search rules
