-- Nothing is written, so a restart finds the lines from before.
use Rattle.std.proofs.Common.{◌++◌, refl, ap, rules}
use Rattle.ring_journal.proofs.Settling.{crash_finds, near_same}
use Rattle.ring_journal.proofs.journal.Journal.reserve.Goals as goal

pub returns-then-bytes-len-clause-any_moment : goal.returns-then-bytes-len-clause-any_moment
returns-then-bytes-len-clause-any_moment g c =
    rw (← c.self.view_is) (λ m from to found find. crash_finds _ _ _ c.self.invariant _ _ refl (near_same _ _ _ c.self.invariant _ refl) m from to found find)

pub returns-in_err-reserve-clause-any_moment : goal.returns-in_err-reserve-clause-any_moment
returns-in_err-reserve-clause-any_moment g c =
    rw (← c.self.view_is) (λ m from to found find. crash_finds _ _ _ c.self.invariant _ _ (ap (λ batch. (g.D.Medium.moment c.self.inside.medium).text ++ batch) c.in_err-reserve.ensures.same) (near_same _ _ _ c.self.invariant _ refl) m from to found find)

pub returns-clause-any_moment : goal.returns-clause-any_moment
returns-clause-any_moment g c =
    rw (← c.self.view_is) (λ m from to found find. crash_finds _ _ _ c.self.invariant _ _ (ap (λ batch. (g.D.Medium.moment c.self.inside.medium).text ++ batch) c.in_ok-reserve.ensures.same) (near_same _ _ _ c.self.invariant _ refl) m from to found find)

pub returns-in_err-reserve-clause-full : goal.returns-in_err-reserve-clause-full
returns-in_err-reserve-clause-full g c = search rules

pub returns-then-bytes-len-clause-full : goal.returns-then-bytes-len-clause-full
returns-then-bytes-len-clause-full g c = search rules
