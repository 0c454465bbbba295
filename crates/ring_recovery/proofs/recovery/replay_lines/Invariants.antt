use Rattle.ring_recovery.proofs.Reading.{IsRead}
use Rattle.ring_recovery.proofs.recovery.replay_lines.Given as goal

abbrev pub invariant-loop-line : goal.invariant-loop-line
invariant-loop-line l = record {
  can_next : goal.iterator-loop-line.can_next l.line-iterator;
  is_finite : goal.iterator-loop-line.is_finite l.line-iterator;
  read : IsRead l.found l.line-iterator l.table l.check l.at;
}
