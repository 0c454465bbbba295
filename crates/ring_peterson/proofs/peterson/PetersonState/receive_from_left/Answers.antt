-- A first message is kept, and chooses the node if it is the node's own value.
use Rattle.std.proofs.Common.{rules}
use Rattle.ring_peterson.proofs.peterson.PetersonState.receive_from_left.Goals as goal

pub returns-after-self-clause-state : goal.returns-after-self-clause-state
returns-after-self-clause-state c = search rules

-- A relay passes on what comes.
pub returns-in-Relay-default-clause-sends : goal.returns-in-Relay-default-clause-sends
returns-in-Relay-default-clause-sends c = search rules
