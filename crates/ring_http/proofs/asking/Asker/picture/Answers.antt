-- The members, then the terms, and then what each member knows.
use Rattle.std.proofs.Common.{refl}
use Rattle.std.proofs.lemmas.Result.{err_from_is_err_and}
use Rattle.ring_http.proofs.Questions.{adds_picture, lacks_each, lacks_terms}
use Rattle.ring_http.proofs.asking.Asker.picture.Goals as goal

pub returns-in_err-leaders-clause-err : goal.returns-in_err-leaders-clause-err
returns-in_err-leaders-clause-err g c =
    let p = err_from_is_err_and c.from_residual-in_err-leaders.result c.from_residual-in_err-leaders.ensures.1 in
    rw (p.1, p.2) (lacks_terms _ _ _ _ _ _ _ c.in_ok-members.ensures.asks c.in_err-leaders.ensures.asks)

pub returns-in_err-informed-clause-err : goal.returns-in_err-informed-clause-err
returns-in_err-informed-clause-err g c =
    let p = err_from_is_err_and c.from_residual-in_err-informed.result c.from_residual-in_err-informed.ensures.1 in
    rw (p.1, p.2) (lacks_each _ _ _ _ _ _ _ _ _ c.in_ok-members.ensures.asks c.in_ok-leaders.ensures.asks c.in_err-informed.ensures.err)

pub returns-clause-ok : goal.returns-clause-ok
returns-clause-ok g c =
    let each = rw c.as_slice.ensures at c.in_ok-informed.ensures.ok in
    (refl, adds_picture _ _ _ _ _ _ c.in_ok-members.ensures.asks c.in_ok-leaders.ensures.asks each)
