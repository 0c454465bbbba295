use Rattle.std.proofs.Common.{◌≡◌, ◌+◌, ◌≤◌, All, take, vec_len, vec_capacity}
use Rattle.ring_service.specs.private.Pools.{IsManned}
use Rattle.ring_service.specs.private.Meshes.{SendersOf}
use Rattle.ring_service.proofs.service.start_all.Given as goal

-- A worker was started for each seat that is taken. For each seat that is left there is a receiver,
-- a sender of each inbox, and room.
abbrev pub invariant-loop-seat : goal.invariant-loop-seat
invariant-loop-seat g l = record {
  receivers : l.mesh.receivers.items ≡ take (vec_len l.seats) l.fn.mesh.receivers.items;
  inboxes : vec_len l.mesh.senders ≡ l.workers;
  senders : SendersOf (vec_len l.seats) l.fn.mesh.receivers.items l.mesh.senders.items;
  few : vec_len l.seats ≤ l.workers;
  seats : All (g.A.Access.has_seat l.access.value) l.seats.items;
  manned : IsManned l.fn.mesh.receivers.items l.pool.threads.items;
  started : vec_len l.pool.threads + vec_len l.seats ≡ l.workers;
  threads : l.workers ≤ vec_capacity l.pool.threads;
  handed : l.workers ≤ vec_capacity l.pool.handed;
}

abbrev pub decreases-loop-seat : goal.decreases-loop-seat
decreases-loop-seat g l = vec_len l.seats
