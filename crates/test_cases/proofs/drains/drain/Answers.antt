-- Each delivery is one more, on the link that was ready.
use Rattle.std.proofs.Common.{add-one}
use Rattle.test_cases.proofs.drains.drain.Goals as goal

pub loop-done-preserved : goal.loop-done-preserved
loop-done-preserved g c =
    rw add-one (
      c.loop-done.world,
      c.loop-done.invariant,
      record {
        position = c.in-Some.position;
        side = c.in-Some.side;
        report = c.in-Moved.field-0;
        ready = c.in-Some.ensures.first;
        moved = c.in-Moved.ensures.delivers.1;
      },
    )

-- Where no link is ready, as many deliveries were made as the loop has counted.
pub returns-in_default-clause-made : goal.returns-in_default-clause-made
returns-in_default-clause-made g c = c.loop-done.invariant
