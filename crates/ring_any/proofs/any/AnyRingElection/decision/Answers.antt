-- The decision of a Chang and Roberts state is the one in their table.
use Rattle.std.proofs.Common.{rules}
use Rattle.ring_any.proofs.any.AnyRingElection.decision.Goals as goal

pub returns-in-Chang-Chang : goal.returns-in-Chang-Chang
returns-in-Chang-Chang c = search rules depth 2 fits 100
