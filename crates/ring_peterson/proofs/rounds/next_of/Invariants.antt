use Rattle.std.proofs.Common.{◌≡◌, ◌++◌, drop}
use Rattle.ring_peterson.specs.Rounds.{two_of}
use Rattle.ring_peterson.specs.laws.Walk.{kept, walk_next}
use Rattle.ring_peterson.proofs.rounds.next_of.Given as goal

-- the entries kept so far, with those of what is left, are the next round
abbrev pub invariant-loop-entry : goal.invariant-loop-entry
invariant-loop-entry l = l.next.items ++ kept (two_of l.before l.last) (drop l.entry-index l.round) ≡ walk_next l.round
