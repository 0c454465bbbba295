-- The owner is told by the member's number alone.
use Rattle.std.proofs.Common.{refl}
use Rattle.ring_workers.proofs.owner.Owner.of.Goals as goal

pub returns-clause-value : goal.returns-clause-value
returns-clause-value c = rw c.get.ensures.value refl
