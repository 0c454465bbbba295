use Rattle.ring_peterson.proofs.Walked.{IsUnderWay}
use Rattle.ring_peterson.proofs.rounds.round_of.Given as goal

abbrev pub invariant-loop : goal.invariant-loop
invariant-loop l = IsUnderWay l.ring l.number l.counter l.round.items
