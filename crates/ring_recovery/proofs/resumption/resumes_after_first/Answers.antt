use Rattle.ring_recovery.proofs.Compacting.{resumes}
use Rattle.ring_recovery.proofs.resumption.resumes_after_first.Goals as goal

pub returns : goal.returns
returns c = resumes c.restarts_after_first.ensures
