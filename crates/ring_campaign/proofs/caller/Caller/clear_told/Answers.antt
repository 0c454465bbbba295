use Rattle.std.proofs.Common.{rules}
use Rattle.ring_campaign.proofs.caller.Caller.clear_told.Goals as goal

pub returns-in-Groups-clause-clears : goal.returns-in-Groups-clause-clears
returns-in-Groups-clause-clears g c = search rules
