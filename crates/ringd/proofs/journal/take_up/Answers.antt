use Rattle.ringd.proofs.Taking.{ok_map}
use Rattle.ringd.proofs.journal.take_up.Goals as goal

-- the table that was begun is the one that was resumed from the bytes of the file
pub returns-in-Ok-clause-ok : goal.returns-in-Ok-clause-ok
returns-in-Ok-clause-ok g c =
    let resumes = c.in-Ok.ensures.ok in
    ok_map _ _ c.begin.result
    (λ begun same. (resumes.0, record { resumed = c.in-Ok.resumed; resumes = resumes.1; book = same.0; history = same.1; next = same.2 }))
    c.begin.ensures.ok
