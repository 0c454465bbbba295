use Rattle.ringd.proofs.Taking.{ok_map}
use Rattle.ringd.proofs.journal.recovered_at.Goals as goal

-- the table was resumed from the bytes that were read
pub returns-in-Ok-clause-ok : goal.returns-in-Ok-clause-ok
returns-in-Ok-clause-ok g c = ok_map _ _ c.recovered.result (λ resumed resumes. (c.in-Ok.found.items, resumes)) c.recovered.ensures.ok
