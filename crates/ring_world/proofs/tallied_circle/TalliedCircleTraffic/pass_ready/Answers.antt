-- Each passage is one more on the link that is first then, and the first that tells a leader is the last.
use Rattle.std.proofs.Common.{◌≡◌, add-one, arith, refl}
use Rattle.ring_world.proofs.tallied_circle.TalliedCircleTraffic.pass_ready.Goals as goal

pub loop-done-init : goal.loop-done-init
loop-done-init g c = let kept = rw c.self.view_is at c.self.invariant in record { passed = refl; sound = kept.sound }

pub returns-in_default-clause-passes : goal.returns-in_default-clause-passes
returns-in_default-clause-passes g c = record { within = omega arith; ends = (c.loop-done.invariant.passed, c.in_default.ensures) }

pub returns-in-Ok-Some-clause-passes : goal.returns-in-Ok-Some-clause-passes
returns-in-Ok-Some-clause-passes g c =
    let told = rw c.in-Ok-Some.field-0-is at c.in-Ok-Some.ensures.passed in
    record {
      within = omega arith;
      ends = (c.loop-done.done, c.loop-done.self, add-one c.loop-done.done, c.loop-done.invariant.passed, record { side = c.in-Some.side; first = c.in-Some.ensures; passed = told; sound = c.pass_front.ensures.sound });
    }

pub returns-in-Err-clause-passes : goal.returns-in-Err-clause-passes
returns-in-Err-clause-passes g c =
    rw c.in-Err.ensures.err
    (record { within = omega arith; ends = (omega arith, c.loop-done.invariant.passed, c.in-Some.position, c.in-Some.side, c.in-Some.ensures) })

pub loop-done-preserved : goal.loop-done-preserved
loop-done-preserved g c =
    let silent = rw c.in-Ok-None.field-0-is at c.in-Ok-None.ensures.passed in
    rw add-one (record {
      passed = (c.loop-done.self, c.in-Some.position, c.loop-done.invariant.passed, record { side = c.in-Some.side; first = c.in-Some.ensures; passed = silent; sound = c.pass_front.ensures.sound });
      sound = c.pass_front.ensures.sound;
    })

pub returns-clause-passes : goal.returns-clause-passes
returns-clause-passes g c =
    let all : c.loop-done.done ≡ c.args.most = omega arith in
    record { within = omega arith; ends = (refl, rw all at c.loop-done.invariant.passed) }
