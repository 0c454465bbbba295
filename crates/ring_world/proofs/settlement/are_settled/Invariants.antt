use Rattle.std.proofs.Common.{◌<◌, ℕ}
use Rattle.ring_world.specs.Settlements.{IsSettledAt}
use Rattle.ring_world.proofs.settlement.are_settled.Given as goal

-- the positions that were passed are settled
abbrev pub invariant-loop-position : goal.invariant-loop-position
invariant-loop-position g l = (i : ℕ) → i < l.position → IsSettledAt g.E.RingElection.table l.charter l.nodes i
