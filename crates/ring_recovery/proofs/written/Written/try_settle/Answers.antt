-- The lines stay the same, so a crash leaves the first of them. Once they are settled, all entries
-- are kept.
use Rattle.std.proofs.Common.{rules}
use Rattle.ring_recovery.proofs.Adding.{all_kept}
use Rattle.ring_recovery.proofs.Keeping.{leaves_lines}
use Rattle.ring_recovery.proofs.written.Written.try_settle.Goals as goal

pub returns-in_err-settle-clause-any_moment : goal.returns-in_err-settle-clause-any_moment
returns-in_err-settle-clause-any_moment g c =
    rw (← c.self.view_is) (leaves_lines _ _ _ c.settle.new.self _ _ c.self.invariant c.settle.ensures.same c.settle.ensures.any_moment)

pub invariant_of-self-2 : goal.invariant_of-self-2
invariant_of-self-2 g c = all_kept _ _ _ _ _ _ _ c.self.invariant c.settle.ensures.same c.in_ok-settle.ensures.ok c.count-self-inside.ensures.value

pub returns-clause-any_moment : goal.returns-clause-any_moment
returns-clause-any_moment g c =
    rw (← c.self.view_is) (leaves_lines _ _ _ c.settle.new.self _ _ c.self.invariant c.settle.ensures.same c.settle.ensures.any_moment)

pub returns-clause-failed : goal.returns-clause-failed
returns-clause-failed g c = search rules
