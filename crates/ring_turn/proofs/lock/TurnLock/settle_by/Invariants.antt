use Rattle.std.proofs.Common.{◌≡◌}
use Rattle.ring_turn.proofs.lock.TurnLock.settle_by.Given as goal

-- a look that tells of too few entries changes nothing
abbrev pub invariant-loop : goal.invariant-loop
invariant-loop g l = (l.token.table_id ≡ l.fn.token.table_id) × (l.token.me ≡ l.fn.token.me)
