-- A failed allocation changes nothing.
use Rattle.std.proofs.Common.{rules}
use Rattle.ring_lelann.proofs.lelann.LeLannRingElection.receive.Goals as goal

pub returns-in_err-map_err-clause-err : goal.returns-in_err-map_err-clause-err
returns-in_err-map_err-clause-err c = search rules

-- On each path the state and the sends are those of the table.
pub returns-clause-state : goal.returns-clause-state
returns-clause-state c = search rules

pub returns-clause-sends : goal.returns-clause-sends
returns-clause-sends c = search rules

-- Only another's identity is stored, so the node's own is never refused.
pub returns-in_err-map_err-clause-free_at_home : goal.returns-in_err-map_err-clause-free_at_home
returns-in_err-map_err-clause-free_at_home c = search rules depth 4 fits 100
