-- The new token has as many hops as two to the power of the new phase.
use Rattle.std.proofs.Common.{rules}
use Rattle.ring_hirschberg.proofs.hirschberg.HirschbergState.come_home.Goals as goal

pub returns-then-before-phase-clause-sends : goal.returns-then-before-phase-clause-sends
returns-then-before-phase-clause-sends c = search rules
