use Rattle.std.proofs.Common.{◌≡◌, List, All}
use Rattle.ring_any.specs.declared.any.Any.{Any}
use Rattle.ring_change.specs.Checks.{first_check}
use Rattle.ring_change.specs.Spelling.{IsChange}
use Rattle.ring_change.specs.declared.change.Change.{Change}
use Rattle.ring_recovery.proofs.listing.Behind.{IsBehind}
use Rattle.ring_recovery.specs.JournalLines.{marked_lines}
use Rattle.ring_recovery.proofs.listing.groups.put_lines.Given as goal

-- the lines so far were listed
abbrev pub invariant-loop-line : goal.invariant-loop-line
invariant-loop-line l =
    (changes : List (Change Any)) → l.fn.lines ≡ marked_lines first_check changes → All IsChange changes
    → IsBehind l.book l.fn.text.items changes l.check l.line-iterator l.text.items
