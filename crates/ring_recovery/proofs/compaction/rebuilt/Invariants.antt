use Rattle.std.proofs.Common.{take}
use Rattle.ring_recovery.specs.private.Rebuilding.{IsRebuilt}
use Rattle.ring_recovery.proofs.compaction.rebuilt.Given as goal

-- the changes so far were carried out
abbrev pub invariant-loop-change : goal.invariant-loop-change
invariant-loop-change l = IsRebuilt l.life (take l.change-index l.changes) l.table l.check l.text.bytes
