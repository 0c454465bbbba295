use Rattle.std.proofs.Common.{◌≡◌, ◌++◌, drop, map}
use Rattle.ring_change.specs.declared.change.Change.TheVariants as change
use Rattle.ring_recovery.proofs.book_changes.group.add_joins.Given as goal

-- the changes so far, with those of the members that are left, are all
abbrev pub invariant-loop-member : goal.invariant-loop-member
invariant-loop-member g l =
    l.changes.items ++ map (λ node. change.Join l.name node) (drop l.member-index l.members) ≡ l.fn.changes.items ++ map (λ node. change.Join l.name node) l.members
