use Rattle.ring_inbox.proofs.Calls.{sizes_as}
use Rattle.ring_inbox.proofs.opening.size.Goals as goal

pub another-spent-requires-clause-rule : goal.another-spent-requires-clause-rule
another-spent-requires-clause-rule g c = sizes_as _ _ _ _ c.requires.first
