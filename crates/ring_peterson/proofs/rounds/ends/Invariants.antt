use Rattle.std.proofs.Common.{◌≡◌, drop}
use Rattle.ring_peterson.specs.Rounds.{two_of}
use Rattle.ring_peterson.specs.laws.Walk.{two_after, two_ends}
use Rattle.ring_peterson.proofs.rounds.ends.Given as goal

-- the walk over what is left comes to the last two values
abbrev pub invariant-loop-entry : goal.invariant-loop-entry
invariant-loop-entry l = two_after (two_of l.before l.last) (drop l.entry-index l.round) ≡ two_ends l.round
