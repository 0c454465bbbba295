use Rattle.std.proofs.Common.{◌≡◌, ◌+◌, ◌≤◌, length, vec_len}
use Rattle.std.specs.Prelude.{All}
use Rattle.std.specs.VecDeque.{deque_capacity, deque_len}
use Rattle.ring_node.specs.Nodes.{envelope_of, sent_of}
use Rattle.ring_workers.specs.private.Posts.{Posted}
use Rattle.ring_workers.proofs.post.post.Given as goal

abbrev pub invariant-loop-place : goal.invariant-loop-place
invariant-loop-place g l = record {
  copies : All (λ c. c.value ≡ l.node.charter) l.copies.items;
  posted : Posted (envelope_of g.E.RingElection.table l.node l.side) l.from l.place l.fn.outbox.items l.outbox.items;
  within : l.place ≤ length (sent_of g.E.RingElection.table l.node l.side);
  many : vec_len l.copies + l.place ≡ vec_len l.fn.copies + l.from;
  len : deque_len l.outbox + l.from ≡ deque_len l.fn.outbox + l.place;
  room : deque_capacity l.outbox ≡ deque_capacity l.fn.outbox;
}
