-- The two words are the number divided by 2^64 and what that leaves.
use Rattle.std.proofs.Common.{rules}
use Rattle.ring_events.proofs.count.Count.new.Goals as goal

pub returns : goal.returns
returns c = search rules
