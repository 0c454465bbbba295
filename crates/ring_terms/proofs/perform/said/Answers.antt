-- The reply for an undecided term says that it is undecided.
use Rattle.std.proofs.Common.{refl}
use Rattle.ring_terms.proofs.perform.said.Goals as goal

pub returns-in-Undecided : goal.returns-in-Undecided
returns-in-Undecided c = rw c.in-Undecided.is refl
