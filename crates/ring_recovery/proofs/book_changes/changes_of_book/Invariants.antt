use Rattle.std.proofs.Common.{◌≡◌, ◌++◌, drop}
use Rattle.ring_recovery.specs.BookChanges.{book_changes}
use Rattle.ring_recovery.proofs.book_changes.changes_of_book.Given as goal

-- the changes so far, with those of the groups that are left, are all
abbrev pub invariant-loop-place : goal.invariant-loop-place
invariant-loop-place g l = l.changes.items ++ book_changes (drop l.place l.book) ≡ book_changes l.book
