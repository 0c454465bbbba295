use Rattle.std.proofs.Common.{◌≡◌, ◌≤◌, length, take}
use Rattle.ring_workers.specs.Seatings.{seated_in}
use Rattle.ring_workers.proofs.term_nodes.TermNodes.len.Given as goal

abbrev pub invariant-loop-place : goal.invariant-loop-place
invariant-loop-place g l = record {
  counted : l.count ≡ length (seated_in (take l.place-index l.place-items));
  below : l.count ≤ l.place-index;
}
