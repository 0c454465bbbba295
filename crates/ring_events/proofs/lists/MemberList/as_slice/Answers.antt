-- The slice shows what the vector holds.
use Rattle.std.proofs.Common.{rules}
use Rattle.ring_events.proofs.lists.MemberList.as_slice.Goals as goal

pub returns : goal.returns
returns c = search rules
