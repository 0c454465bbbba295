-- If two members have one number, that is the first fault.
use Rattle.std.proofs.Common.{rules}
use Rattle.ring_roster.proofs.roster.Roster.from_members.Goals as goal

pub returns-then-repeats-clause-err : goal.returns-then-repeats-clause-err
returns-then-repeats-clause-err c = search rules
