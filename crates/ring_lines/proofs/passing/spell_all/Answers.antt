-- The spellings so far, and the one that comes next.
use Rattle.std.proofs.Common.{◌+◌}
use Rattle.std.proofs.lemmas.List.{take_all, take_more}
use Rattle.std.proofs.lemmas.List.Elements.{All-nil, All-push}
use Rattle.ring_lines.proofs.Spelled.{text_push, text_split}
use Rattle.ring_lines.proofs.Writing.{err_anyway}
use Rattle.ring_lines.proofs.passing.spell_all.Goals as goal

pub loop-answer-init : goal.loop-answer-init
loop-answer-init g c = record { put = g.met.S.Sink.laws.none c.args.out.now; legal = All-nil g.A.Spell.is_legal }

pub returns-in_err-spell-clause-err : goal.returns-in_err-spell-clause-err
returns-in_err-spell-clause-err g c =
    err_anyway c.from_residual.result
    (rw (← text_split g.A.Spell.spelling (c.loop-answer.answer-index + 1) c.args.answers.now, take_more c.args.answers.now c.loop-answer.answer-index c.answer-item.result c.loop-answer-test.true, ← c.answer-item.is, text_push)
    (g.met.S.Sink.laws.front _ _ _ _ (g.met.S.Sink.laws.then_front _ _ _ _ _ c.loop-answer.invariant.put c.in_err-spell.ensures.err)))

pub loop-answer-preserved : goal.loop-answer-preserved
loop-answer-preserved g c = rw (take_more c.args.answers.now c.loop-answer.answer-index c.answer-item.result c.loop-answer-test.true, ← c.answer-item.is) (record {
  put = rw text_push (g.met.S.Sink.laws.then _ _ _ _ _ c.loop-answer.invariant.put c.in_ok-spell.ensures.ok);
  legal = All-push g.A.Spell.is_legal _ _ c.loop-answer.invariant.legal c.in_ok-spell.ensures.legal;
})

pub returns-clause-ok : goal.returns-clause-ok
returns-clause-ok g c = rw (take_all c.loop-answer.answer-index c.args.answers.now c.loop-answer-test.false) at c.loop-answer.invariant.put

pub returns-clause-legal : goal.returns-clause-legal
returns-clause-legal g c = rw (take_all c.loop-answer.answer-index c.args.answers.now c.loop-answer-test.false) at c.loop-answer.invariant.legal
