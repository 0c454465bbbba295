use Rattle.ring_workers.proofs.Handling.{turns_held}
use Rattle.ring_workers.proofs.run.handle_at.Goals as goal

pub returns-in-Halt-clause-turns : goal.returns-in-Halt-clause-turns
returns-in-Halt-clause-turns g c = turns_held g.E.RingElection.table c.args.item c.args.worker_state.now.nodes c.args.worker_state.now.outbox.items c.args.worker_state.now.dropped
