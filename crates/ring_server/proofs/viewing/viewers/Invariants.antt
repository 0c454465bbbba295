use Rattle.std.proofs.Common.{◌≡◌, ◌+◌, ◌≤◌, All, vec_len, vec_capacity}
use Rattle.ring_server.proofs.viewing.viewers.Given as goal

-- The seats that are left are of the lock, and there is room for them. Each viewer so far has the
-- base that was asked for.
abbrev pub invariant-loop-seat : goal.invariant-loop-seat
invariant-loop-seat g l =
    All (λ seat. seat.lock ≡ l.fn.front.id) l.rest.items × (vec_len l.viewers + vec_len l.rest ≡ vec_len l.fn.seats) × (vec_len l.fn.seats ≤ vec_capacity l.viewers)
    × All (λ viewer. viewer.base.number ≡ l.fn.base) l.viewers.items

abbrev pub decreases-loop-seat : goal.decreases-loop-seat
decreases-loop-seat g l = goal.left-loop-seat g l
