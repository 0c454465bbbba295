-- Left of a position that is not the first is the one before it.
use Rattle.std.proofs.Common.{rules}
use Rattle.ring_roster.proofs.members.Members.neighbour.Goals as goal

pub returns-in-Left-2-clause-value : goal.returns-in-Left-2-clause-value
returns-in-Left-2-clause-value c = search rules
