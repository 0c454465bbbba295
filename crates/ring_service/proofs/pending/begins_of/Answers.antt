-- One more begin, for a worker that exists.
use Rattle.std.proofs.Common.{◌<◌}
use Rattle.std.proofs.lemmas.List.Elements.{All-push}
use Rattle.ring_service.proofs.Posting.{says_more}
use Rattle.ring_service.proofs.pending.begins_of.Goals as goal

pub loop-worker-preserved : goal.loop-worker-preserved
loop-worker-preserved c = record {
  said = rw c.in-Ok-push_back.ensures.items (says_more c.loop-worker.begins.items _ c.charter-item.result c.in-Ok.copy c.loop-worker.worker c.in-Ok.ensures c.loop-worker.invariant.said);
  known = rw c.in-Ok-push_back.ensures.items (All-push (λ begin. begin.worker < c.args.workers) _ _ c.loop-worker.invariant.known c.loop-worker-test.true);
}
