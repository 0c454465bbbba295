use Rattle.std.proofs.Common.{ℕ, List, subst}
use Rattle.ring_journal.specs.Journals.{HasAll}
use Rattle.ring_recovery.specs.Compacted.{Resumes}
use Rattle.ringd.proofs.replicated.recovered_at.Goals as goal

-- the bytes of the place are lines, and the table was resumed from them
pub returns-in-Ok-clause-ok : goal.returns-in-Ok-clause-ok
returns-in-Ok-clause-ok g c = subst (λ (found : List ℕ). HasAll found × Resumes found c.in-Ok.resumed) c.read.ensures.bytes c.in-Ok.ensures.ok
