-- The copy holds the same identities, which are a ring, and the index is theirs.
use Rattle.std.proofs.Common.{rules}
use Rattle.ring_roster.proofs.members.Members.new.Goals as goal

pub invariant_of-result : goal.invariant_of-result
invariant_of-result c = search rules depth 2 fits 100
