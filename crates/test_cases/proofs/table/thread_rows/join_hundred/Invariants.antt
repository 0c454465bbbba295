use Rattle.ring_turn.specs.Seats.{IsSameSeat}
use Rattle.test_cases.proofs.table.thread_rows.join_hundred.Given as goal

-- the seat stays the one of its number
abbrev pub invariant-loop-number : goal.invariant-loop-number
invariant-loop-number g l = IsSameSeat l.fn.seat l.seat
