-- A left link has an even place, and a right one the odd place after it.
use Rattle.std.proofs.Common.{refl}
use Rattle.ring_world.proofs.link_set.place_of.Goals as goal

pub returns-in-Left-clause-value : goal.returns-in-Left-clause-value
returns-in-Left-clause-value c = rw c.in-Left.is refl

pub returns-in-Right-clause-value : goal.returns-in-Right-clause-value
returns-in-Right-clause-value c = rw c.in-Right.is refl
