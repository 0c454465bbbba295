use Rattle.std.proofs.Common.{◌≡◌, ◌∷◌, drop}
use Rattle.ring_roster.specs.Ring.{greatest_of}
use Rattle.ring_lelann.proofs.lelann.greatest.Given as goal

-- the greatest so far, with what is left, gives the greatest of all
abbrev pub invariant-loop-node : goal.invariant-loop-node
invariant-loop-node l = greatest_of (l.greatest ∷ drop l.node-index l.seen) ≡ greatest_of (l.fn.me ∷ l.seen)
