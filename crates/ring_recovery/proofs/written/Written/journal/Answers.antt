use Rattle.std.proofs.Common.{refl}
use Rattle.ring_recovery.proofs.Keeping.{its_lines, leaves_lines}
use Rattle.ring_recovery.proofs.written.Written.journal.Goals as goal

pub returns-clause-any_moment : goal.returns-clause-any_moment
returns-clause-any_moment g c =
    rw (← c.self.view_is) (leaves_lines _ _ _ c.self.inside.journal _ _ c.self.invariant refl c.pending-pending.ensures.any_moment)

pub returns-clause-lines : goal.returns-clause-lines
returns-clause-lines g c = rw (← c.self.view_is) (its_lines _ _ _ _ _ c.self.invariant)
