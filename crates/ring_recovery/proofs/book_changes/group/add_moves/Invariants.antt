use Rattle.std.proofs.Common.{◌≡◌, ◌++◌, drop}
use Rattle.ring_recovery.specs.BookChanges.{moves}
use Rattle.ring_recovery.proofs.book_changes.group.add_moves.Given as goal

-- the changes so far, with those of the members that are left, are all
abbrev pub invariant-loop-member : goal.invariant-loop-member
invariant-loop-member g l = l.changes.items ++ moves l.name (drop l.member-index l.before) l.rest ≡ l.fn.changes.items ++ moves l.name l.before l.after
