use Rattle.std.proofs.Common.{◌≡◌, ◌+◌, ◌-◌, ◌^◌, ◌≤◌, length, min}
use Rattle.ring_workers.specs.Holdings.{nodes_of}
use Rattle.ring_workers.proofs.Moving.{seated_all}
use Rattle.ring_workers.proofs.nodes.Nodes.count.Given as goal

abbrev pub invariant-loop-seats : goal.invariant-loop-seats
invariant-loop-seats g l = record {
  counted : min (l.count + length (seated_all l.seats-iterator)) (2 ^ 64 - 1) ≡ min (length (nodes_of l.fn.self)) (2 ^ 64 - 1);
  within : l.count ≤ 2 ^ 64 - 1;
}
