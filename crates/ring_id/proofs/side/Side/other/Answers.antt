-- Right is the other side of left.
use Rattle.std.proofs.Common.{rules}
use Rattle.ring_id.proofs.side.Side.other.Goals as goal

pub returns-in-Left : goal.returns-in-Left
returns-in-Left c = search rules depth 2 fits 100
