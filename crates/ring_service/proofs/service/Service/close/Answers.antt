-- All threads were joined, and there was one for each worker.
use Rattle.ring_service.proofs.Manning.{all_hand}
use Rattle.ring_service.proofs.service.Service.close.Goals as goal

pub returns-clause-handed : goal.returns-clause-handed
returns-clause-handed g c = all_hand c.self.inside.pool.threads.items c.end.result.handed.items c.self.invariant c.end.ensures.handed
