use Rattle.std.proofs.Common.{refl}
use Rattle.ring_journal.proofs.Settling.{crash_finds, near_same}
use Rattle.ring_journal.proofs.journal.Journal.pending.Goals as goal

pub returns-clause-any_moment : goal.returns-clause-any_moment
returns-clause-any_moment g c =
    rw (← c.self.view_is) (λ m from to found find. crash_finds _ _ _ c.self.invariant _ _ refl (near_same _ _ _ c.self.invariant _ refl) m from to found find)
