-- The answers so far, and the one that comes next.
use Rattle.std.proofs.Common.{rules}
use Rattle.std.proofs.lemmas.List.{take_all, take_more}
use Rattle.ring_lines.proofs.Batching.{answers_all_more, answers_all_none}
use Rattle.ring_schedule.proofs.replaying.ReplayerAnswerer.answer_all.Goals as goal

pub loop-question-init : goal.loop-question-init
loop-question-init c = record { answered = rw c.requires.none (answers_all_none _ _ _); count = search rules; room = search rules }

pub loop-question-preserved : goal.loop-question-preserved
loop-question-preserved c = record {
  answered =
      rw (take_more c.args.asked.now c.loop-question.question-index c.question-item.result c.loop-question-test.true, ← c.question-item.is, c.push_reserved.ensures.items)
      (answers_all_more _ _ _ _ _ _ _ _ _ c.loop-question.invariant.answered c.reply_to.ensures);
  count = search rules;
  room = search rules;
}

pub returns-clause-answered : goal.returns-clause-answered
returns-clause-answered c = rw (take_all c.loop-question.question-index c.args.asked.now c.loop-question-test.false) at c.loop-question.invariant.answered
