-- On each path the state and the sends are those of the kind's table, and only LeLann's list can lack memory.
use Rattle.std.proofs.Common.{rules}
use Rattle.ring_any.proofs.any.AnyRingElection.receive.Goals as goal

pub returns-clause-state : goal.returns-clause-state
returns-clause-state c = search rules

pub returns-clause-sends : goal.returns-clause-sends
returns-clause-sends c = search rules

pub returns-clause-free : goal.returns-clause-free
returns-clause-free c = search rules
