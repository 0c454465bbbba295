-- A chosen node decides on itself.
use Rattle.std.proofs.Common.{rules}
use Rattle.ring_peterson.proofs.peterson.PetersonRingElection.decision.Goals as goal

pub returns-then-state : goal.returns-then-state
returns-then-state c = search rules
