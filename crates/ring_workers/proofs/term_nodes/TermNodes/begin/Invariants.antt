-- So far the nodes at earlier positions are seated.

use Rattle.ring_workers.proofs.Beginning.{SeatedSoFar}
use Rattle.ring_workers.proofs.term_nodes.TermNodes.begin.Given as goal

abbrev pub invariant-loop-position : goal.invariant-loop-position
invariant-loop-position g l = SeatedSoFar g.E.RingElection.table l.fn.self l.self l.fn.outbox.items l.outbox.items l.position
