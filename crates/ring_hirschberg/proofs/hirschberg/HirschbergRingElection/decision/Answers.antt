-- The decision is a field of the state.
use Rattle.std.proofs.Common.{refl}
use Rattle.ring_hirschberg.proofs.hirschberg.HirschbergRingElection.decision.Goals as goal

pub returns : goal.returns
returns c = refl
