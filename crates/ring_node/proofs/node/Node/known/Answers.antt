-- The known leader follows from the journal of the member here.
use Rattle.std.proofs.lemmas.Option.{get_or_from_slice_get}
use Rattle.ring_node.proofs.node.Node.known.Goals as goal

pub returns-clause-value : goal.returns-clause-value
returns-clause-value g c =
    rw (← c.self.view_is, get_or_from_slice_get _ _ _ 0 c.self.invariant.here) c.self.invariant.known_is
