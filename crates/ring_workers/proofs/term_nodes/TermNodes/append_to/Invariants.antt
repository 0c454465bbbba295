use Rattle.std.proofs.Common.{◌≡◌, ◌+◌, ◌≤◌, ◌++◌, length, vec_capacity, vec_len}
use Rattle.std.specs.Vec.Iter.{into_iter_items}
use Rattle.ring_workers.specs.Seatings.{seated_in}
use Rattle.ring_workers.proofs.term_nodes.TermNodes.append_to.Given as goal

abbrev pub invariant-loop-place : goal.invariant-loop-place
invariant-loop-place g l = record {
  moved : l.nodes.items ++ seated_in (into_iter_items l.place-iterator) ≡ l.fn.nodes.items ++ seated_in l.fn.self.places;
  room : vec_len l.nodes + length (seated_in (into_iter_items l.place-iterator)) ≤ vec_capacity l.nodes;
  capacity : vec_capacity l.nodes ≡ vec_capacity l.fn.nodes;
}
