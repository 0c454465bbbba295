-- The first token goes to both sides.
use Rattle.ring_hirschberg.proofs.hirschberg.HirschbergRingElection.start.Goals as goal

pub returns-clause-sends : goal.returns-clause-sends
returns-clause-sends c = c.token.ensures
