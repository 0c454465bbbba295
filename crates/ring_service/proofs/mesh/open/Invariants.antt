use Rattle.std.proofs.Common.{◌≡◌, ◌+◌, ◌≤◌, All, vec_len, vec_capacity}
use Rattle.ring_service.specs.private.Meshes.{IsFresh, SendersOf}
use Rattle.ring_service.proofs.mesh.open.Given as goal

-- an inbox for each round with all its senders, and room for the others
abbrev pub invariant-loop : goal.invariant-loop
invariant-loop l = record {
  opened : vec_len l.receivers ≡ l.counter;
  with_senders : vec_len l.senders ≡ l.counter;
  whole : SendersOf (l.fn.workers + 1) l.receivers.items l.senders.items;
  fresh : All IsFresh l.receivers.items;
  capacity : All (λ receiver. receiver.inbox.capacity ≡ l.fn.capacity) l.receivers.items;
  receivers_room : l.fn.workers ≤ vec_capacity l.receivers;
  senders_room : l.fn.workers ≤ vec_capacity l.senders;
}
