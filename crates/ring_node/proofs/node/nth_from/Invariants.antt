use Rattle.std.proofs.Common.{◌≡◌, drop, slice_get}
use Rattle.ring_election.specs.Traces.{taken_from}
use Rattle.ring_node.proofs.node.nth_from.Given as goal

-- the wanted place, counted from the position of the loop
abbrev pub invariant-loop-receipt : goal.invariant-loop-receipt
invariant-loop-receipt g l = slice_get (taken_from l.side l.journal) l.place ≡ slice_get (taken_from l.side (drop l.receipt-index l.journal)) l.before
