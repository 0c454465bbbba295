use Rattle.std.proofs.Common.{◌≡◌, drop, max}
use Rattle.ring_roster.specs.Ring.{greatest_of}
use Rattle.ring_winner.proofs.winner.greatest.Given as goal

-- the greatest of all is the greater of the greatest so far and the greatest of the rest
abbrev pub invariant-loop-position : goal.invariant-loop-position
invariant-loop-position l = max l.greatest (greatest_of (drop l.position l.roster)) ≡ greatest_of l.roster
