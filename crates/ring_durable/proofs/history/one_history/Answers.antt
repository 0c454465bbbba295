use Rattle.ring_durable.proofs.Lasting.{durable}
use Rattle.ring_durable.proofs.history.one_history.Goals as goal

pub returns : goal.returns
returns c = durable c.resumes_after_first.ensures c.all_lives.ensures c.one_leader.ensures
