use Rattle.std.proofs.Common.{◌≡◌, length}
use Rattle.ring_roster.specs.Ring.{has_repeat}
use Rattle.ring_roster.proofs.roster.repeats.Given as goal

-- the elements passed hold no repeat, so the rest has one if and only if the whole has one
abbrev pub invariant-loop-first : goal.invariant-loop-first
invariant-loop-first l = has_repeat l.rest ≡ has_repeat l.members

abbrev pub decreases-loop-first : goal.decreases-loop-first
decreases-loop-first l = length l.rest
