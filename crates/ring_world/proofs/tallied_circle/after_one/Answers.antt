-- One was taken.
use Rattle.std.proofs.Common.{arith}
use Rattle.ring_world.proofs.tallied_circle.after_one.Goals as goal

pub returns-in_default : goal.returns-in_default
returns-in_default c = omega arith
