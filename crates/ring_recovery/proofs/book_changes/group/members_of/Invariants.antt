use Rattle.std.proofs.Common.{◌≡◌, take}
use Rattle.ring_recovery.proofs.book_changes.group.members_of.Given as goal

abbrev pub invariant-loop-position : goal.invariant-loop-position
invariant-loop-position l = l.members.items ≡ take l.position l.ring
