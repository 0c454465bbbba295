use Rattle.std.proofs.Common.{take}
use Rattle.ring_recovery.specs.private.Shortening.{IsSpelled}
use Rattle.ring_recovery.proofs.short.spelled.Given as goal

-- the lines of the changes so far were added
abbrev pub invariant-loop-change : goal.invariant-loop-change
invariant-loop-change l = IsSpelled l.fn.life (take l.change-index l.changes) l.check l.text.bytes
