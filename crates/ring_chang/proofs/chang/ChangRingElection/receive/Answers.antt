-- On each path the state and the sends are those of the table.
use Rattle.std.proofs.Common.{rules}
use Rattle.ring_chang.proofs.chang.ChangRingElection.receive.Goals as goal

pub returns-clause-state : goal.returns-clause-state
returns-clause-state c = search rules

pub returns-clause-sends : goal.returns-clause-sends
returns-clause-sends c = search rules
