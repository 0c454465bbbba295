-- The first message goes to the right.
use Rattle.std.proofs.Common.{refl}
use Rattle.ring_lelann.proofs.lelann.LeLannRingElection.start.Goals as goal

pub returns-clause-sends : goal.returns-clause-sends
returns-clause-sends c = refl
