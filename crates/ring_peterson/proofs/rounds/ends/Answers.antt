-- A walk over all entries, which carries the two values met last.
use Rattle.std.proofs.Common.{ap, sym, ◌∙◌}
use Rattle.std.proofs.lemmas.List.{drop_all}
use Rattle.ring_peterson.specs.Rounds.{two_of}
use Rattle.ring_peterson.specs.laws.Walk.{two_after, two_ends}
use Rattle.ring_peterson.proofs.Walked.{two_after_one_more, two_ends_from_first}
use Rattle.ring_peterson.proofs.rounds.ends.Goals as goal

pub loop-entry-init : goal.loop-entry-init
loop-entry-init c = two_ends_from_first c.args.round.now c.in_ok-first.first.now (sym c.in_ok-first.ensures.value)

pub loop-entry-preserved : goal.loop-entry-preserved
loop-entry-preserved c = two_after_one_more c.args.round.now (two_of c.loop-entry.before c.loop-entry.last) (two_ends c.args.round.now) c.loop-entry.entry-index c.entry-item.result c.loop-entry-test.true c.entry-item.is c.loop-entry.invariant

pub returns : goal.returns
returns c = ap (two_after (two_of c.loop-entry.before c.loop-entry.last)) (sym (drop_all c.loop-entry.entry-index c.args.round.now c.loop-entry-test.false)) ∙ c.loop-entry.invariant
