-- The message to the right comes from the receipt from the left. From the right nothing happens.
use Rattle.std.proofs.Common.{rules}
use Rattle.ring_peterson.proofs.peterson.PetersonRingElection.receive.Goals as goal

pub returns-clause-sends : goal.returns-clause-sends
returns-clause-sends c = search rules
