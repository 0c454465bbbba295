use Rattle.std.proofs.Common.{◌≡◌, take}
use Rattle.ring_change.specs.Checks.{check_after}
use Rattle.ring_change.proofs.check.Check.after.Given as goal

-- the check is that of the bytes so far
abbrev pub invariant-loop-byte : goal.invariant-loop-byte
invariant-loop-byte l = l.rest ≡ check_after l.fn.self (take l.byte-index l.bytes)
