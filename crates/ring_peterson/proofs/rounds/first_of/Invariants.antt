use Rattle.std.proofs.Common.{◌≡◌, ◌++◌, drop}
use Rattle.ring_peterson.specs.Rounds.{first_round, numbered}
use Rattle.ring_peterson.proofs.rounds.first_of.Given as goal

-- the positions so far, with those that are left, are the first round
abbrev pub invariant-loop-position : goal.invariant-loop-position
invariant-loop-position l = l.round.items ++ numbered l.position (drop l.position l.ring) ≡ first_round l.ring
