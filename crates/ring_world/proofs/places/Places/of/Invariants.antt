use Rattle.std.proofs.Common.{◌≡◌, ◌<◌, ℕ, Some, length, slice_get}
use Rattle.ring_node.specs.Nodes.{IsFaithful, Seated}
use Rattle.ring_world.specs.private.Places.{IsPlaced}
use Rattle.ring_world.proofs.places.Places.of.Given as goal

-- the list says where the nodes stand that were passed
abbrev pub invariant-loop-place : goal.invariant-loop-place
invariant-loop-place g l = record {
  size : length l.at ≡ 256;
  placed : IsPlaced l.charter l.nodes l.place l.at;
  faithful : (k : ℕ) (node : Seated g.row.E.Denot g.row.E-Msg.Denot) → k < l.place → slice_get l.nodes k ≡ Some node → IsFaithful g.E.RingElection.table g.E.RingElection.fits g.E.RingElection.winner node;
}
