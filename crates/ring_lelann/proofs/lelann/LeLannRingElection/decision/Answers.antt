-- The decision is a field of the state.
use Rattle.std.proofs.Common.{ap}
use Rattle.ring_lelann.specs.LeLann.{Knowledge}
use Rattle.ring_lelann.proofs.lelann.LeLannRingElection.decision.Goals as goal

pub returns : goal.returns
returns c = ap (λ (known : Knowledge). known.decided) c.state.view_is
