use Rattle.std.proofs.Common.{◌≡◌, ◌+◌, ◌≤◌, ◌++◌, length, vec_capacity, vec_len}
use Rattle.ring_workers.specs.Holdings.{nodes_in, nodes_of}
use Rattle.ring_workers.proofs.nodes.Nodes.append_to.Given as goal

abbrev pub invariant-loop-seats : goal.invariant-loop-seats
invariant-loop-seats g l = record {
  moved : l.nodes.items ++ nodes_in l.seats-iterator ≡ l.fn.nodes.items ++ nodes_of l.fn.self;
  room : vec_len l.nodes + length (nodes_in l.seats-iterator) ≤ vec_capacity l.nodes;
}
