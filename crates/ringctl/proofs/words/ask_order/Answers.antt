-- A line that is sent spells the command that was read in it.
use Rattle.std.proofs.Common.{refl, rules}
use Rattle.ringctl.proofs.words.ask_order.Goals as goal

pub returns-clause-some : goal.returns-clause-some
returns-clause-some c = (refl, (search rules))
