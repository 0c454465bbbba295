-- The node's own identity goes to the right.
use Rattle.std.proofs.Common.{refl}
use Rattle.ring_chang.proofs.chang.ChangRingElection.start.Goals as goal

pub returns-clause-sends : goal.returns-clause-sends
returns-clause-sends c = refl
