-- The code compares ranks, and contracts see an identity as its rank.
use Rattle.std.proofs.Common.{rules}
use Rattle.ring_id.proofs.identity.NodeIdOrd.cmp.Goals as goal

pub returns : goal.returns
returns c = search rules
