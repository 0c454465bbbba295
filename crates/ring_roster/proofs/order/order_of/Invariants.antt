use Rattle.std.proofs.Common.{◌≡◌, ◌≤◌, length, vec_capacity, vec_len}
use Rattle.ring_roster.proofs.Orders.{AreFirst}
use Rattle.ring_roster.proofs.order.order_of.Given as goal

-- the positions so far, and there is room for the rest
abbrev pub invariant-loop-position : goal.invariant-loop-position
invariant-loop-position l = record {
  first : AreFirst l.members l.order.items l.position;
  len : vec_len l.order ≡ l.position;
  room : length l.members ≤ vec_capacity l.order;
}
