use Rattle.std.proofs.Common.{◌≡◌, vec_len}
use Rattle.ring_workers.specs.private.Sends.{Sends}
use Rattle.ring_workers.proofs.outbox.send.Given as goal

abbrev pub invariant-loop : goal.invariant-loop
invariant-loop g l = record {
  sends : Sends l.owner.workers l.fn.outbox.items l.outbox.items l.fn.senders.items l.senders.items;
  count : vec_len l.senders ≡ vec_len l.fn.senders;
}
