use Rattle.std.proofs.Common.{Some, refl, ap, inl, inr}
use Rattle.ring_node.specs.Envelopes.{Sent}
use Rattle.ring_workers.specs.declared.item.Item.TheVariants.{Packet}
use Rattle.ring_workers.proofs.worker_state.WorkerState.handle.Goals as goal

pub returns-in-Ok-clause-turns : goal.returns-in-Ok-clause-turns
returns-in-Ok-clause-turns g c =
    rw c.in-Begin.is
    (record {
      steps = c.begin.ensures.steps;
      grows = c.begin.ensures.grows;
      end = inr (refl, c.in-Ok.ensures.begun);
    })

pub returns-in-Ok-None-clause-turns : goal.returns-in-Ok-None-clause-turns
returns-in-Ok-None-clause-turns g c =
    rw c.in-Packet.is
    (record {
      steps = c.deliver.ensures.steps;
      grows = c.deliver.ensures.grows;
      end = inr (refl, c.in-Ok-None.ensures.delivered);
    })

pub returns-in-Ok-Some-clause-turns : goal.returns-in-Ok-Some-clause-turns
returns-in-Ok-Some-clause-turns g c =
    rw c.in-Packet.is
    (record {
      steps = c.deliver.ensures.steps;
      grows = c.deliver.ensures.grows;
      end = inr (refl, c.in-Ok-Some.ensures.delivered);
    })

pub returns-in-Err-deliver-clause-turns : goal.returns-in-Err-deliver-clause-turns
returns-in-Err-deliver-clause-turns g c =
    rw c.in-Packet.is
    (record {
      steps = c.deliver.ensures.steps;
      grows = c.deliver.ensures.grows;
      end = inl (ap (λ (e : Sent _ _). Some (Packet e)) c.in-Err-deliver.ensures.back, c.in-Err-deliver.ensures.uncounted);
    })

pub returns-in-Err-deliver-clause-ends : goal.returns-in-Err-deliver-clause-ends
returns-in-Err-deliver-clause-ends g c = rw c.in-Packet.is (ap (λ (e : Sent _ _). Some (Packet e)) c.in-Err-deliver.ensures.back)
