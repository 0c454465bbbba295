-- Nothing is written, so the lines stay the same.
use Rattle.std.proofs.Common.{rules}
use Rattle.ring_recovery.proofs.Keeping.{leaves_lines}
use Rattle.ring_recovery.proofs.written.Written.reserve_line.Goals as goal

pub returns-in-Ok-clause-any_moment : goal.returns-in-Ok-clause-any_moment
returns-in-Ok-clause-any_moment g c =
    rw (← c.self.view_is) (leaves_lines _ _ _ c.reserve.new.self _ _ c.self.invariant c.reserve.ensures.same.lines c.reserve.ensures.any_moment)

pub returns-in-Err-NoMemory-clause-any_moment : goal.returns-in-Err-NoMemory-clause-any_moment
returns-in-Err-NoMemory-clause-any_moment g c =
    rw (← c.self.view_is) (leaves_lines _ _ _ c.reserve.new.self _ _ c.self.invariant c.reserve.ensures.same.lines c.reserve.ensures.any_moment)

pub returns-in-Err-Full-clause-room : goal.returns-in-Err-Full-clause-room
returns-in-Err-Full-clause-room g c = search rules
