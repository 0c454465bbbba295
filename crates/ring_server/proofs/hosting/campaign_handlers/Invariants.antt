use Rattle.std.proofs.Common.{◌≡◌, ◌+◌, ◌≤◌, All, vec_len, vec_capacity}
use Rattle.ring_server.proofs.hosting.campaign_handlers.Given as goal

-- the seats that are left are of the lock, and there is room for them
abbrev pub invariant-loop-seat : goal.invariant-loop-seat
invariant-loop-seat g l =
    All (λ seat. seat.lock ≡ l.fn.front.id) l.rest.items × (vec_len l.campaign_handlers + vec_len l.rest ≡ vec_len l.fn.seats) × (vec_len l.fn.seats ≤ vec_capacity l.campaign_handlers)

abbrev pub decreases-loop-seat : goal.decreases-loop-seat
decreases-loop-seat g l = goal.left-loop-seat g l
