use Rattle.std.proofs.Common.{inl}
use Rattle.ringd.proofs.Taking.{err_map, ok_map}
use Rattle.ringd.proofs.replicated.take_over.Goals as goal

-- the table that was begun is the one that was resumed from the bytes that were taken over
pub returns-in-Ok-clause-ok : goal.returns-in-Ok-clause-ok
returns-in-Ok-clause-ok g c =
    let over = c.in-Ok.ensures.ok in
    ok_map _ _ c.begin_over.result
    (λ begun same. record { place = over.0; taken = over.1; lines = over.2; resumed = record { resumed = c.in-Ok.resumed; resumes = over.3; book = same.0; history = same.1; next = same.2 } })
    c.begin_over.ensures.ok

-- a fault of beginning the journal anew is one of taking it over
pub returns-in-Ok-clause-fault : goal.returns-in-Ok-clause-fault
returns-in-Ok-clause-fault g c = err_map _ _ c.begin_over.result (λ fault journal. inl journal) c.begin_over.ensures.fault
