-- A token on its way out is one with the same identity and hops.
use Rattle.std.proofs.Common.{rules}
use Rattle.ring_any.proofs.any.token.Goals as goal

pub returns-in-Out : goal.returns-in-Out
returns-in-Out c = search rules depth 2 fits 100
