-- One picture after another.
use Rattle.std.proofs.Common.{arith}
use Rattle.std.proofs.lemmas.Result.{err_from_is_err_and}
use Rattle.ring_http.proofs.Questions.{lacks_after, watched_first, watched_next, watched_questions}
use Rattle.ring_http.proofs.asking.Asker.watch.Goals as goal

pub loop-init : goal.loop-init
loop-init g c = record { has = c.in_ok-shown.ensures.seat; watched = watched_first _ _ _ _ _ c.in_ok-shown.ensures.ok.0 c.in_ok-shown.ensures.ok.1; placed = c.in_ok-shown.ensures.placed }

pub returns-in_err-next-clause-err : goal.returns-in_err-next-clause-err
returns-in_err-next-clause-err g c =
    let p = err_from_is_err_and c.from_residual-in_err-next.result c.from_residual-in_err-next.ensures.1 in
    rw (p.1, p.2) (lacks_after _ _ _ _ _ (watched_questions _ _ _ _ _ c.loop.invariant.watched) c.in_err-next.ensures.err)

pub loop-preserved : goal.loop-preserved
loop-preserved g c = record {
  has = c.in_ok-next.ensures.seat;
  watched = watched_next _ _ _ _ _ _ _ c.loop.invariant.watched c.in_ok-next.ensures.ok.0 c.in_ok-next.ensures.ok.1;
  placed = (c.in_ok-next.ensures.placed.0, omega (arith, c.in_ok-next.ensures.placed.1, c.loop.invariant.placed.1));
}
