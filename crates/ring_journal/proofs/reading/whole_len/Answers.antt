use Rattle.std.proofs.Common.{inl, inr, refl, arith, length-drop}
use Rattle.ring_journal.proofs.Scanning.{read_all, read_has_all, reads_byte, reads_lf, zero_first}
use Rattle.ring_journal.proofs.reading.whole_len.Goals as goal

pub loop-at-preserved-then-ends : goal.loop-at-preserved-then-ends
loop-at-preserved-then-ends c = record { reads = reads_lf _ _ _ _ c.loop-at.invariant.reads c.loop-at-test.true c.if-ends.true refl }

pub loop-at-preserved : goal.loop-at-preserved
loop-at-preserved c = record { reads = reads_byte _ _ _ _ c.loop-at.invariant.reads c.loop-at-test.true c.if-ends.false c.if-found-at-ne0.true refl }

pub returns-else-found-at-ne0-clause-lines : goal.returns-else-found-at-ne0-clause-lines
returns-else-found-at-ne0-clause-lines c = read_all _ _ _ c.loop-at.invariant.reads (inr (zero_first _ _ c.loop-at-test.true c.if-found-at-ne0.false))

pub returns-after-loop-at-clause-lines : goal.returns-after-loop-at-clause-lines
returns-after-loop-at-clause-lines c = read_all _ c.loop-at.at _ c.loop-at.invariant.reads (inl (omega (arith, length-drop c.loop-at.at c.args.found.now, c.loop-at-test.false)))

pub returns-else-found-at-ne0-clause-all : goal.returns-else-found-at-ne0-clause-all
returns-else-found-at-ne0-clause-all c = read_has_all _ _ _ c.loop-at.invariant.reads

pub returns-after-loop-at-clause-all : goal.returns-after-loop-at-clause-all
returns-after-loop-at-clause-all c = read_has_all _ c.loop-at.at _ c.loop-at.invariant.reads
