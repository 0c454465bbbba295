use Rattle.std.proofs.Common.{rules}
use Rattle.ring_change.proofs.change.change_of_filing.Goals as goal

pub returns-in-Noted : goal.returns-in-Noted
returns-in-Noted g c = search rules
