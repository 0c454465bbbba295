use Rattle.std.proofs.Common.{length}
use Rattle.ring_peterson.specs.Rounds.{two_of}
use Rattle.ring_peterson.specs.laws.Walk.{walk_next}
use Rattle.ring_winner.proofs.InPlace.{IsInPlace}
use Rattle.ring_winner.proofs.rounds.advance.Given as goal

abbrev pub invariant-loop-place : goal.invariant-loop-place
invariant-loop-place l = IsInPlace (walk_next l.fn.round.items) (length l.fn.round.items) l.kept l.place (two_of l.before l.last) l.round.items
