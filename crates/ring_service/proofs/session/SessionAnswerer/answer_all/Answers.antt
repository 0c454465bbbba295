-- The answers so far, the one that comes next, and all of them when the seat is settled.
use Rattle.std.proofs.Common.{rules}
use Rattle.std.proofs.lemmas.List.{take_all, take_more}
use Rattle.ring_lines.proofs.Batching.{answers_all_more, answers_all_none, answers_all_settled}
use Rattle.ring_service.proofs.session.SessionAnswerer.answer_all.Goals as goal

pub loop-question-init : goal.loop-question-init
loop-question-init g c = record {
  seat = c.requires.holds.0;
  answered = rw c.requires.none (answers_all_none _ _ _);
  count = search rules;
  room = search rules;
}

pub loop-question-preserved : goal.loop-question-preserved
loop-question-preserved g c = record {
  seat = c.answer-written.ensures.seat;
  answered =
      rw (take_more c.args.asked.now c.loop-question.question-index c.question-item.result c.loop-question-test.true, ← c.question-item.is, c.push_reserved.ensures.items)
      (answers_all_more _ _ _ _ _ _ _ _ _ c.loop-question.invariant.answered c.answer-written.ensures.answer);
  count = search rules;
  room = search rules;
}

pub returns-clause-answered : goal.returns-clause-answered
returns-clause-answered g c =
    let all = rw (take_all c.loop-question.question-index c.args.asked.now c.loop-question-test.false) at c.loop-question.invariant.answered in
    answers_all_settled _ g.A.Access.mine (g.F.Format.answers c.args.self.now.format g.A.Access.most c.args.self.now.number) _ _ _ _ _ c.requires.some all (rw c.release.ensures at c.settle.ensures.entries)
