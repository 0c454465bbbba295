-- One group after another.
use Rattle.std.proofs.Common.{arith}
use Rattle.std.proofs.lemmas.Result.{err_from_is_err_and}
use Rattle.ring_http.proofs.Questions.{adds_more, lacks_after, lacks_room, pictures_all, pictures_more, pictures_none}
use Rattle.ring_http.proofs.asking.Asker.pictures.Goals as goal

pub loop-name-init : goal.loop-name-init
loop-name-init g c = record { has = c.requires.seat; adds = pictures_none _ _ _ c.new-groups.ensures.items; kept = λ from. from; rises = omega arith }

pub returns-in_err-group-clause-err : goal.returns-in_err-group-clause-err
returns-in_err-group-clause-err g c =
    let p = err_from_is_err_and c.from_residual.result c.from_residual.ensures.1 in
    rw (p.1, p.2) (lacks_after _ _ _ _ _ c.loop-name.invariant.adds.adds c.in_err-group.ensures.err)

pub returns-in_default-clause-err : goal.returns-in_default-clause-err
returns-in_default-clause-err g c = lacks_room _ _ _ (adds_more _ _ _ _ c.loop-name.invariant.adds.adds c.in_ok-group.ensures.ok.1.adds)

pub loop-name-preserved : goal.loop-name-preserved
loop-name-preserved g c = record {
  has = c.in_ok-group.ensures.seat;
  adds = pictures_more _ _ _ c.name-item.result _ _ c.in_ok-group.group _ _ _ c.loop-name-test.true c.name-item.is c.in_ok-group.ensures.ok.0 c.loop-name.invariant.adds c.in_ok-group.ensures.ok.1 c.in-Ok.ensures.items;
  kept = λ from. c.in_ok-group.ensures.placed.0;
  rises = omega (arith, c.in_ok-group.ensures.placed.1, c.loop-name.invariant.rises);
}

pub returns-clause-ok : goal.returns-clause-ok
returns-clause-ok g c = pictures_all _ _ _ _ _ _ (omega arith) c.loop-name.invariant.adds
