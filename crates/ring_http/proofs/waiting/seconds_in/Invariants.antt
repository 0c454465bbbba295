use Rattle.std.proofs.Common.{◌≤◌}
use Rattle.ring_http.proofs.waiting.seconds_in.Given as goal

abbrev pub invariant-loop-byte : goal.invariant-loop-byte
invariant-loop-byte l = l.seconds ≤ 60
