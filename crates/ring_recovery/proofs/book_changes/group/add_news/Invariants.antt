use Rattle.std.proofs.Common.{◌≡◌, ◌++◌, drop}
use Rattle.ring_recovery.specs.BookChanges.{news}
use Rattle.ring_recovery.proofs.book_changes.group.add_news.Given as goal

-- the changes so far, with those of the members that are left, are all
abbrev pub invariant-loop-member : goal.invariant-loop-member
invariant-loop-member g l =
    l.changes.items ++ news l.name l.number l.leader (drop l.member-index l.ring) l.marks ≡ l.fn.changes.items ++ news l.name l.number l.leader l.ring l.informed
