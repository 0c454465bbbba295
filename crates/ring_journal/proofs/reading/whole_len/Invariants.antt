use Rattle.std.proofs.Common.{length, ◌-◌}
use Rattle.ring_journal.proofs.Scanning.{Reads}
use Rattle.ring_journal.proofs.reading.whole_len.Given as goal

abbrev pub invariant-loop-at : goal.invariant-loop-at
invariant-loop-at l = record { reads : Reads l.found l.at l.whole }

abbrev pub decreases-loop-at : goal.decreases-loop-at
decreases-loop-at l = length l.found - l.at
