-- The new text leads to the groups of all entries, and a restart finds the old text or the new one.
use Rattle.std.proofs.Common.{refl, arith}
use Rattle.ring_recovery.proofs.Shortening.{leaves_either, rewritten, sure_within}
use Rattle.ring_recovery.proofs.written.Written.rewrite.Goals as goal

pub returns-in-Err-NoMemory-clause-any_moment : goal.returns-in-Err-NoMemory-clause-any_moment
returns-in-Err-NoMemory-clause-any_moment g c =
    leaves_either c.args.self.now _ _ _ _ c.journal-before.ensures.any_moment c.journal-same.ensures.any_moment (rw (← c.self.view_is) refl) (rw (← c.self.view_is) refl) (rw (← c.self.view_is) (omega arith))

pub invariant_of-self-2 : goal.invariant_of-self-2
invariant_of-self-2 g c =
    rewritten _ _ _ _ _ _ c.self.invariant.counted c.self.invariant.few (rw (← c.self.view_is) at c.requires) c.in-Ok.ensures.lines c.in-Ok.ensures.settled c.count-self-inside.ensures.value

pub returns-clause-any_moment : goal.returns-clause-any_moment
returns-clause-any_moment g c =
    leaves_either c.args.self.now _ _ _ _ c.journal-before.ensures.any_moment c.journal-after.ensures.any_moment (rw (← c.self.view_is) refl) (rw (← c.self.view_is) refl)
    (rw (← c.self.view_is) (sure_within _ _ _ _ _ _ c.self.invariant c.count-self-inside.ensures.value))
