use Rattle.std.proofs.Common.{◌≡◌, ◌≤◌, ◌<◌, ℕ, [], replicate, vec_len, vec_capacity}
use Rattle.ring_node.specs.Nodes.{IsFaithful}
use Rattle.ring_world.specs.Worlds.{nodes_from}
use Rattle.ring_world.proofs.circle.Circle.begin.Given as goal

-- the nodes of the positions that were passed have started, and there is room for the others
abbrev pub invariant-loop-position : goal.invariant-loop-position
invariant-loop-position g l = record {
  nodes : l.nodes.items ≡ nodes_from l.charter.value 0 (replicate l.position []);
  count : vec_len l.nodes ≡ l.position;
  room : l.size ≤ vec_capacity l.nodes;
  faithful : (i : ℕ) → i < l.position → IsFaithful g.E.RingElection.table g.E.RingElection.fits g.E.RingElection.winner (record { charter = l.charter.value; position = i; journal = [] });
}
