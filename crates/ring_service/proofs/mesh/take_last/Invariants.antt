use Rattle.std.proofs.Common.{◌≤◌, length, vec_capacity}
use Rattle.ring_service.proofs.Meshing.{TakesSome}
use Rattle.ring_service.proofs.mesh.take_last.Given as goal

-- the inboxes so far have lost their last sender, and the others not yet
abbrev pub invariant-loop-senders : goal.invariant-loop-senders
invariant-loop-senders g l = record {
  takes : TakesSome l.senders-index l.fn.inboxes.items l.senders-items l.taken.items;
  room : length l.senders-items ≤ vec_capacity l.taken;
}
