use Rattle.ringd.proofs.Taking.{ok_map}
use Rattle.ringd.proofs.replicated.recovered_over.Goals as goal

-- the table was resumed from the bytes of the place that was taken
pub returns-in-Ok-clause-ok : goal.returns-in-Ok-clause-ok
returns-in-Ok-clause-ok g c = ok_map _ _ c.recovered_at.result (λ over held. (c.in-Ok.place, c.in-Ok.ensures, held.0, held.1)) c.recovered_at.ensures.ok
