-- The answers so far, and the one that comes next.
use Rattle.std.proofs.Common.{rules}
use Rattle.std.proofs.lemmas.List.{take_all, take_more}
use Rattle.ring_lines.proofs.Batching.{answers_all_more, answers_all_none}
use Rattle.test_cases.proofs.lines.batches.MarkingAnswerer.answer_all.Goals as goal

pub loop-mark-init : goal.loop-mark-init
loop-mark-init c = record { answered = rw c.requires.none (answers_all_none _ _ _); count = search rules; room = search rules }

pub loop-mark-preserved : goal.loop-mark-preserved
loop-mark-preserved c = record {
  answered =
      rw (take_more c.args.asked.now c.loop-mark.mark-index 0 c.loop-mark-test.true, c.push_reserved.ensures.items)
      (answers_all_more _ _ _ _ _ _ _ _ _ c.loop-mark.invariant.answered (λ line asks. tt));
  count = search rules;
  room = search rules;
}

pub returns-clause-answered : goal.returns-clause-answered
returns-clause-answered c = rw (take_all c.loop-mark.mark-index c.args.asked.now c.loop-mark-test.false) at c.loop-mark.invariant.answered
