-- So far each place is empty, and there is room for the rest.
use Rattle.std.proofs.Common.{◌≡◌, ◌≤◌, None, replicate, vec_len}
use Rattle.std.specs.Prelude.{vec_capacity}
use Rattle.ring_workers.proofs.term_nodes.TermNodes.new.Given as goal

abbrev pub invariant-loop : goal.invariant-loop
invariant-loop g l = (l.places.items ≡ replicate l.counter None) × (vec_len l.places ≡ l.counter) × (l.ring ≤ vec_capacity l.places)
