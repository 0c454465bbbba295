-- The decision is a field of the state.
use Rattle.std.proofs.Common.{refl}
use Rattle.ring_chang.proofs.chang.ChangRingElection.decision.Goals as goal

pub returns : goal.returns
returns c = refl
