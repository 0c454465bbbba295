-- An entry stays, with its predecessor's value, or it is passed over.
use Rattle.std.proofs.Common.{refl, rules}
use Rattle.ring_peterson.specs.Rounds.{two_of}
use Rattle.ring_peterson.specs.laws.Walk.{kept, walk_next}
use Rattle.ring_peterson.proofs.Walked.{kept_one_more, nothing_left}
use Rattle.ring_peterson.proofs.rounds.next_of.Goals as goal

pub loop-entry-init : goal.loop-entry-init
loop-entry-init c = search rules

pub loop-entry-preserved : goal.loop-entry-preserved
loop-entry-preserved c =
    kept_one_more c.args.round.now (walk_next c.args.round.now) (two_of c.loop-entry.before c.loop-entry.last) c.loop-entry.entry-index c.entry-item.result c.loop-entry.next.items c.if-stays.next.items
    c.loop-entry-test.true c.entry-item.is (search rules) c.loop-entry.invariant

pub returns : goal.returns
returns c =
    nothing_left (kept (two_of c.loop-entry.before c.loop-entry.last)) c.args.round.now c.loop-entry.entry-index c.loop-entry.next.items (walk_next c.args.round.now) refl c.loop-entry-test.false c.loop-entry.invariant
