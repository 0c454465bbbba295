-- One member after another.
use Rattle.std.proofs.Common.{arith}
use Rattle.std.proofs.lemmas.Result.{err_from_is_err_and}
use Rattle.ring_http.proofs.Questions.{each_all, each_more, each_none, lacks_after}
use Rattle.ring_http.proofs.asking.Asker.informed.Goals as goal

pub loop-member-init : goal.loop-member-init
loop-member-init g c = record { has = c.requires.seat; each = each_none _ _ _ _ c.new-informed.ensures.items; kept = λ from. from; rises = omega arith }

pub returns-in_err-hear-clause-err : goal.returns-in_err-hear-clause-err
returns-in_err-hear-clause-err g c =
    let p = err_from_is_err_and c.from_residual.result c.from_residual.ensures.1 in
    rw (p.1, p.2) (lacks_after _ _ _ _ _ c.loop-member.invariant.each.adds c.in_err-hear.ensures.err)

pub loop-member-preserved : goal.loop-member-preserved
loop-member-preserved g c =
    let hears = c.in_ok-hear.ensures.ok in
    record {
      has = c.hear.ensures.seat;
      each = each_more _ _ _ _ c.member-item.result hears.answer _ _ _ _ _ c.loop-member-test.true c.member-item.is c.loop-member.invariant.each (rw c.number.ensures.value at hears.gained) (rw c.number.ensures.value at hears.heard);
      kept = λ from. c.in_ok-hear.ensures.placed.0;
      rises = omega (arith, c.in_ok-hear.ensures.placed.1, c.loop-member.invariant.rises);
    }

pub returns-clause-ok : goal.returns-clause-ok
returns-clause-ok g c = each_all _ _ _ _ _ _ _ (omega arith) c.loop-member.invariant.each
