-- The thread that was started promised the result of this worker.
use Rattle.std.proofs.Common.{ap, ◌∙◌}
use Rattle.ring_service.proofs.pool.WorkerPool.start.Goals as goal

pub returns-in-Ok-clause-started : goal.returns-in-Ok-clause-started
returns-in-Ok-clause-started g c = record {
  thread = c.in-Ok.thread;
  added = c.push_reserved.ensures.items;
  inboxes_are = ap (λ work. work.inboxes.value.value.items) c.in-Ok.ensures.ok ∙ ap (λ inboxes. inboxes.value.items) c.of-2.ensures;
  number_is = ap (λ work. work.worker.value.owner.number) c.in-Ok.ensures.ok ∙ ap (λ worker. worker.owner.number) c.of.ensures;
}
