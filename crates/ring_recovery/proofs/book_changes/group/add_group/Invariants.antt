use Rattle.std.proofs.Common.{◌≡◌, ◌++◌, ◌+◌, ◌-◌, ◌≤◌, drop, length}
use Rattle.ring_recovery.specs.BookChanges.{group_changes, terms_changes}
use Rattle.ring_recovery.proofs.book_changes.group.add_group.Given as goal

-- the changes so far, with those of the terms that are left, are all
abbrev pub invariant-loop-term : goal.invariant-loop-term
invariant-loop-term g l = record {
  within : l.place ≤ length l.group.1.terms;
  story : l.changes.items ++ terms_changes l.name (l.place + 1) l.before.items (drop l.place l.group.1.terms) l.group.1.members ≡ l.fn.changes.items ++ group_changes l.name l.group.1;
}

abbrev pub decreases-loop-term : goal.decreases-loop-term
decreases-loop-term g l = length l.group.1.terms - l.place
