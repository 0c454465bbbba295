use Rattle.std.proofs.Common.{◌≡◌, ◌+◌, ◌≤◌, vec_len, vec_capacity}
use Rattle.std.specs.Prelude.{All}
use Rattle.ring_workers.proofs.post.find_room.Given as goal

abbrev pub invariant-loop : goal.invariant-loop
invariant-loop g l = record {
  copies : All (λ c. c.value ≡ l.charter.value) l.copies.items;
  many : vec_len l.copies ≡ vec_len l.initial.copies + l.counter;
  room : vec_len l.copies + l.missing ≤ vec_capacity l.copies + l.counter;
}
