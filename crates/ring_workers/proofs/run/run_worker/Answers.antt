use Rattle.std.proofs.Common.{None, refl, ap, ◌∙◌}
use Rattle.ring_workers.specs.Holdings.{Holding}
use Rattle.ring_workers.proofs.Handling.{ended_at, hands_over, ran_sent}
use Rattle.ring_workers.proofs.Turning.{ran_none, ran_turn}
use Rattle.ring_workers.proofs.run.run_worker.Goals as goal

pub loop-init : goal.loop-init
loop-init g c = record {
  count = c.requires;
  ran = rw (c.new-worker_state.ensures.outbox, c.new-worker_state.ensures.dropped)
      (ran_none g.E.RingElection.table c.args.worker.owner.number c.args.worker.owner.workers c.args.receiver.now c.args.senders.now.items c.new-worker_state.result.nodes
      (ap (λ (h : Holding _ _). h.number) c.new-worker_state.ensures.nodes) (ap (λ (h : Holding _ _). h.workers) c.new-worker_state.ensures.nodes) (ap (λ (h : Holding _ _). h.groups) c.new-worker_state.ensures.nodes));
}

pub loop-preserved : goal.loop-preserved
loop-preserved g c = record {
  count = c.send.ensures.count ∙ c.loop.invariant.count;
  ran = ran_turn _ _ _ _ _ _ _ _ _ _ _ _ _ _ c.in-Item.ensures.0 _ _
      (ran_sent _ _ _ _ _ _ _ _ _ _ _ _ _ _ c.loop.invariant.ran c.owner-owner.ensures.workers c.send.ensures.sends)
      c.in-Item.ensures.1 c.in_default.ensures.turns;
}

pub loop-preserved-in-Nothing : goal.loop-preserved-in-Nothing
loop-preserved-in-Nothing g c = record {
  count = c.send.ensures.count ∙ c.loop.invariant.count;
  ran = rw c.in-Nothing.ensures (ran_sent _ _ _ _ _ _ _ _ _ _ _ _ _ _ c.loop.invariant.ran c.owner-owner.ensures.workers c.send.ensures.sends);
}

pub returns-in-Closed : goal.returns-in-Closed
returns-in-Closed g c =
    hands_over _ _ _ _ _ _ _ c.loop.worker_state.nodes c.send.new.outbox.items c.loop.worker_state.dropped None c.hand_back.result
    (rw c.in-Closed.ensures (ran_sent _ _ _ _ _ _ _ _ _ _ _ _ _ _ c.loop.invariant.ran c.owner-owner.ensures.workers c.send.ensures.sends))
    c.hand_back.ensures.number c.hand_back.ensures.workers c.hand_back.ensures.nodes (ap (λ q. q.items) c.hand_back.ensures.outbox) c.hand_back.ensures.dropped c.hand_back.ensures.held
    c.hand_back.ensures.owned c.hand_back.ensures.apart
    (rw (c.hand_back.ensures.why, c.hand_back.ensures.held) refl)

pub returns-in-Some-handle_at : goal.returns-in-Some-handle_at
returns-in-Some-handle_at g c =
    hands_over _ _ _ _ _ _ _ c.handle_at.new.worker_state.nodes c.handle_at.new.worker_state.outbox.items c.handle_at.new.worker_state.dropped c.in-Some-handle_at.held c.hand_back-in-Some-handle_at.result
    (ran_turn _ _ _ _ _ _ _ _ _ _ _ _ _ _ c.in-Item.ensures.0 _ _
    (ran_sent _ _ _ _ _ _ _ _ _ _ _ _ _ _ c.loop.invariant.ran c.owner-owner.ensures.workers c.send.ensures.sends)
    c.in-Item.ensures.1 c.in-Some-handle_at.ensures.turns)
    c.hand_back-in-Some-handle_at.ensures.number c.hand_back-in-Some-handle_at.ensures.workers c.hand_back-in-Some-handle_at.ensures.nodes (ap (λ q. q.items) c.hand_back-in-Some-handle_at.ensures.outbox)
    c.hand_back-in-Some-handle_at.ensures.dropped c.hand_back-in-Some-handle_at.ensures.held c.hand_back-in-Some-handle_at.ensures.owned c.hand_back-in-Some-handle_at.ensures.apart
    (ended_at _ _ _ _ _ _ c.in-Item.ensures.0 c.in-Item.item c.in-Some-handle_at.why c.in-Some-handle_at.held c.hand_back-in-Some-handle_at.result
    (ran_sent _ _ _ _ _ _ _ _ _ _ _ _ _ _ c.loop.invariant.ran c.owner-owner.ensures.workers c.send.ensures.sends)
    c.in-Item.ensures.1 c.in-Some-handle_at.ensures.ends c.hand_back-in-Some-handle_at.ensures.why c.hand_back-in-Some-handle_at.ensures.held)
