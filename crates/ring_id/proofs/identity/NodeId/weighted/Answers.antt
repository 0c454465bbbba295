-- The rank is made of the weight and the number that were passed.
use Rattle.std.proofs.Common.{rules}
use Rattle.ring_id.proofs.identity.NodeId.weighted.Goals as goal

pub returns-clause-value : goal.returns-clause-value
returns-clause-value c = search rules
