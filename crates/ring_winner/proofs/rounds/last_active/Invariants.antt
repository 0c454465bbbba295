use Rattle.std.proofs.Common.{length}
use Rattle.ring_winner.proofs.Remaining.{IsRemaining}
use Rattle.ring_winner.proofs.rounds.last_active.Given as goal

abbrev pub invariant-loop-round : goal.invariant-loop-round
invariant-loop-round l = IsRemaining l.ring l.round.items

abbrev pub decreases-loop-round : goal.decreases-loop-round
decreases-loop-round l = length l.round.items
