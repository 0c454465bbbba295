use Rattle.std.proofs.Common.{◌≡◌, ◌+◌, ◌≤◌, All, vec_len, vec_capacity}
use Rattle.ring_server.proofs.sessions.limited_handlers.Given as goal

-- The seats that are left are of the lock, and there is room for them. Each handler so far has the
-- limit and the base that were asked for.
abbrev pub invariant-loop-seat : goal.invariant-loop-seat
invariant-loop-seat g l =
    All (λ seat. seat.lock ≡ l.fn.front.id) l.rest.items × (vec_len l.handlers + vec_len l.rest ≡ vec_len l.fn.seats) × (vec_len l.fn.seats ≤ vec_capacity l.handlers)
    × All (λ handler. handler.reads ≡ l.fn.reads) l.handlers.items × All (λ handler. handler.base.number ≡ l.fn.base) l.handlers.items

abbrev pub decreases-loop-seat : goal.decreases-loop-seat
decreases-loop-seat g l = goal.left-loop-seat g l
