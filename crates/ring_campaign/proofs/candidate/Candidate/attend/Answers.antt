-- One turn after another, each but the first after a read call.
use Rattle.std.proofs.Common.{◌≤◌, ◌++◌, ◌∷◌, [], length, refl}
use Rattle.std.specs.Prelude.{IfOk}
use Rattle.ring_lines.specs.Ends.{reading}
use Rattle.ring_campaign.proofs.Told.{attends_ended, attends_turned, calls_more, is_over, turned_more, turned_none}
use Rattle.ring_campaign.proofs.candidate.Candidate.attend.Goals as goal

pub loop-init : goal.loop-init
loop-init g c = record { has = c.requires; turned = turned_none _ _ _ _ _ _; calls = []; led = refl; went_on = refl }

pub returns-in-Over : goal.returns-in-Over
returns-in-Over g c = record {
  seat = c.turn.ensures.seat;
  attends = attends_turned _ _ _ _ _ _ _ _ _ _ _ _ _ _ _ _ _ _ _ c.loop.invariant.turned c.turn.ensures.turns (is_over _ c.in-Over.is) c.loop.invariant.led c.loop.invariant.went_on;
}

pub returns-then-not-may_go_on-clause-attends : goal.returns-then-not-may_go_on-clause-attends
returns-then-not-may_go_on-clause-attends g c =
    let fits : IfOk c.read.result (λ n. n ≤ length c.read.new.buffer) = rw c.read.auto.buffer c.read.ensures.within in
    let turned = turned_more _ _ _ _ _ _ _ _ _ _ _ _ _ _ _ c.loop.invariant.turned c.in-On.ensures.turns in
    attends_ended _ _ _ _ _ _ _ _ _ _ _ _ _ _ _ _ turned c.loop.invariant.led c.loop.invariant.went_on c.read.ensures.step (c.if-not-may_go_on.ensures c.read.new.buffer fits)

pub loop-preserved : goal.loop-preserved
loop-preserved g c =
    let fits : IfOk c.read.result (λ n. n ≤ length c.read.new.buffer) = rw c.read.auto.buffer c.read.ensures.within in
    let more = calls_more _ _ _ _ _ _ c.loop.invariant.led c.loop.invariant.went_on c.read.ensures.step (c.if-not-may_go_on.ensures c.read.new.buffer fits) in
    record {
      has = c.turn.ensures.seat;
      turned = turned_more _ _ _ _ _ _ _ _ _ _ _ _ _ _ _ c.loop.invariant.turned c.in-On.ensures.turns;
      calls = c.loop.invariant.calls ++ reading c.read.result c.read.new.buffer ∷ [];
      led = more.0;
      went_on = more.1;
    }
