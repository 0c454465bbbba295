-- One round after the other, until the number is reached or no position is active.
use Rattle.std.proofs.Common.{rules}
use Rattle.std.proofs.lemmas.List.{nil_from_length}
use Rattle.ring_peterson.proofs.Walked.{IsUnderWay-first, IsUnderWay-next, under_way_done, under_way_past}
use Rattle.ring_peterson.proofs.rounds.round_of.Goals as goal
use Rattle.ring_peterson.proofs.rounds.round_of.Goals.{else-loop-test, then-loop-test+then-is_empty}

pub loop-init : goal.loop-init
loop-init c = IsUnderWay-first c.args.ring.now c.args.number c.in_ok-round.round.items c.in_ok-round.ensures

pub loop-preserved : goal.loop-preserved
loop-preserved c = IsUnderWay-next c.args.ring.now c.args.number c.loop.counter c.loop.round.items c.in_ok-round-2.round.items c.loop-test.true (search rules) c.loop.invariant

pub returns : goal.returns
returns c =
    elim c.loop-test.branch [
      | else-loop-test w ↦ under_way_done c.args.ring.now c.args.number c.loop.counter c.loop.round.items (search rules) c.loop.invariant
      | then-loop-test+then-is_empty w ↦ under_way_past c.args.ring.now c.args.number c.loop.counter c.loop.round.items (nil_from_length c.loop.round.items (search rules)) c.loop.invariant
    ]
