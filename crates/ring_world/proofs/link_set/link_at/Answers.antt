-- A place is even for a left link and odd for a right one.
use Rattle.std.proofs.Common.{rules}
use Rattle.ring_world.proofs.link_set.link_at.Goals as goal

pub returns : goal.returns
returns c = search rules
