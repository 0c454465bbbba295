-- Each inbox has a sender for each worker and one for the service.
use Rattle.std.proofs.Common.{◌≡◌, ◌+◌, arith, length}
use Rattle.std.proofs.lemmas.List.Elements.{All-push}
use Rattle.ring_service.specs.private.Meshes.{IsFresh}
use Rattle.ring_service.proofs.Meshing.{opens_more}
use Rattle.ring_service.proofs.mesh.open.Goals as goal

pub loop-preserved : goal.loop-preserved
loop-preserved c =
    let long : length c.loop.receivers.items ≡ length c.loop.senders.items = omega (arith, c.loop.receivers.ok.0, c.loop.senders.ok.0, c.loop.invariant.opened, c.loop.invariant.with_senders) in
    record {
      opened = omega arith;
      with_senders = omega arith;
      whole = rw (c.push_reserved.ensures.items, c.push_reserved-in-loop.ensures.items) (opens_more (c.args.workers + 1) c.loop.receivers.items c.loop.senders.items c.in-Ok-inbox.receiver c.in-Ok-inbox.all long c.in-Ok-inbox.ensures.senders c.loop.invariant.whole);
      fresh = rw c.push_reserved.ensures.items (All-push IsFresh _ _ c.loop.invariant.fresh (c.in-Ok-inbox.ensures.receiver.1, c.in-Ok-inbox.ensures.heard));
      capacity = rw c.push_reserved.ensures.items (All-push (λ receiver. receiver.inbox.capacity ≡ c.args.capacity) _ _ c.loop.invariant.capacity c.in-Ok-inbox.ensures.capacity);
      receivers_room = omega arith;
      senders_room = omega arith;
    }
