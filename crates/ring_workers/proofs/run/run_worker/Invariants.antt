use Rattle.std.proofs.Common.{◌≡◌, vec_len}
use Rattle.std.specs.Prelude.{None}
use Rattle.ring_workers.specs.Runs.{Ran}
use Rattle.ring_workers.proofs.run.run_worker.Given as goal

abbrev pub invariant-loop : goal.invariant-loop
invariant-loop g l = record {
  count : vec_len l.senders ≡ l.fn.worker.owner.workers;
  ran : Ran g.E.RingElection.table l.fn.worker.owner.number l.fn.worker.owner.workers l.fn.receiver l.receiver l.fn.senders.items l.senders.items l.worker_state.nodes l.worker_state.outbox.items l.worker_state.dropped None;
}
