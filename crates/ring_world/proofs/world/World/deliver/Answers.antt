-- The world after the passage is sound, and so its work is bounded; a report tells what the passage tells.
use Rattle.std.proofs.Common.{None, Some, ap, refl, sym, ◌∙◌}
use Rattle.ring_world.proofs.Answering.{where_ok}
use Rattle.ring_world.proofs.Passing.{passed_moved, passed_truthful, told_after}
use Rattle.ring_world.proofs.Work.{work_bounded}
use Rattle.ring_world.proofs.world.World.deliver.Goals as goal

pub pass-requires : goal.pass-requires
pass-requires g c = rw (← c.self.view_is) at c.requires

pub report_of-requires-clause-found : goal.report_of-requires-clause-found
report_of-requires-clause-found g c = where_ok c.find.result (sym c.is_ok-may_tell.ensures.value ∙ c.in-Moved-Some.ensures.passes.1) c.find.ensures.found

pub report_of-requires-clause-inside : goal.report_of-requires-clause-inside
report_of-requires-clause-inside g c = rw (c.find.ensures.same, c.self.invariant.charter_is) (rw (← c.self.view_is) at c.requires)

pub report_of-requires-clause-truthful : goal.report_of-requires-clause-truthful
report_of-requires-clause-truthful g c =
    let passed = rw c.in-Moved-Some.field-0-is at c.in-Moved-Some.ensures.passes.2 in
    rw (c.find.ensures.same, c.self.invariant.charter_is)
    (passed_truthful g.E.RingElection.table (g.T.Traffic.running c.self.inside.traffic) c.args.position c.args.side g.E.RingElection.fits g.E.RingElection.winner (rw (← c.self.view_is) at c.requires) c.in-Moved-Some.leader _ passed c.pass.ensures.sound)

pub invariant_of-self : goal.invariant_of-self
invariant_of-self g c = rw c.find.ensures.same (told_after g.E.RingElection.table _ _ _ _ _ _ _ _ _ c.self.invariant.charter_is _ c.pass.ensures.passes c.pass.ensures.sound)

pub invariant_of-self-in-Moved-Some : goal.invariant_of-self-in-Moved-Some
invariant_of-self-in-Moved-Some g c = rw (c.report_of.ensures.same, c.find.ensures.same) (told_after g.E.RingElection.table _ _ _ _ _ _ _ _ _ c.self.invariant.charter_is _ c.pass.ensures.passes c.pass.ensures.sound)

pub invariant_of-self-in-Idle : goal.invariant_of-self-in-Idle
invariant_of-self-in-Idle g c = rw c.find.ensures.same (told_after g.E.RingElection.table _ _ _ _ _ _ _ _ _ c.self.invariant.charter_is _ c.pass.ensures.passes c.pass.ensures.sound)

pub invariant_of-self-in-Refused : goal.invariant_of-self-in-Refused
invariant_of-self-in-Refused g c = rw c.find.ensures.same (told_after g.E.RingElection.table _ _ _ _ _ _ _ _ _ c.self.invariant.charter_is _ c.pass.ensures.passes c.pass.ensures.sound)

pub returns-in-Moved-None-clause-delivers : goal.returns-in-Moved-None-clause-delivers
returns-in-Moved-None-clause-delivers g c =
    let passes = rw (c.in-Moved-None.field-0-is, c.self.view_is) at c.in-Moved-None.ensures.passes in
    (passes.0, passed_moved g.E.RingElection.table _ _ _ None _ passes.2 None refl)

pub returns-in-Moved-Some-clause-delivers : goal.returns-in-Moved-Some-clause-delivers
returns-in-Moved-Some-clause-delivers g c =
    let passes = rw (c.in-Moved-Some.field-0-is, c.self.view_is) at c.in-Moved-Some.ensures.passes in
    let told = rw (c.find.ensures.same, c.self.invariant.charter_is, c.self.view_is) at c.report_of.ensures.told in
    (passes.0, passed_moved g.E.RingElection.table _ _ _ (Some c.in-Moved-Some.leader) _ passes.2 (Some c.report_of.result) (ap Some told))

pub returns-in-Idle-clause-delivers : goal.returns-in-Idle-clause-delivers
returns-in-Idle-clause-delivers g c = rw c.self.view_is at c.in-Idle.ensures.passes

pub returns-in-Refused-clause-delivers : goal.returns-in-Refused-clause-delivers
returns-in-Refused-clause-delivers g c = rw c.self.view_is at c.in-Refused.ensures.passes

pub returns-in-Moved-None-clause-sound : goal.returns-in-Moved-None-clause-sound
returns-in-Moved-None-clause-sound g c = c.pass.ensures.sound

pub returns-in-Moved-None-clause-bounded : goal.returns-in-Moved-None-clause-bounded
returns-in-Moved-None-clause-bounded g c = work_bounded _ _ _ _ c.pass.ensures.sound g.E.RingElection.bound (g.met.E.RingElection.bounded (g.T.Traffic.running c.pass.new.self).charter.algorithm)

pub returns-in-Moved-Some-clause-sound : goal.returns-in-Moved-Some-clause-sound
returns-in-Moved-Some-clause-sound g c = c.pass.ensures.sound

pub returns-in-Moved-Some-clause-bounded : goal.returns-in-Moved-Some-clause-bounded
returns-in-Moved-Some-clause-bounded g c = work_bounded _ _ _ _ c.pass.ensures.sound g.E.RingElection.bound (g.met.E.RingElection.bounded (g.T.Traffic.running c.pass.new.self).charter.algorithm)

pub returns-in-Idle-clause-sound : goal.returns-in-Idle-clause-sound
returns-in-Idle-clause-sound g c = c.pass.ensures.sound

pub returns-in-Idle-clause-bounded : goal.returns-in-Idle-clause-bounded
returns-in-Idle-clause-bounded g c = work_bounded _ _ _ _ c.pass.ensures.sound g.E.RingElection.bound (g.met.E.RingElection.bounded (g.T.Traffic.running c.pass.new.self).charter.algorithm)

pub returns-in-Refused-clause-sound : goal.returns-in-Refused-clause-sound
returns-in-Refused-clause-sound g c = c.pass.ensures.sound

pub returns-in-Refused-clause-bounded : goal.returns-in-Refused-clause-bounded
returns-in-Refused-clause-bounded g c = work_bounded _ _ _ _ c.pass.ensures.sound g.E.RingElection.bound (g.met.E.RingElection.bounded (g.T.Traffic.running c.pass.new.self).charter.algorithm)
