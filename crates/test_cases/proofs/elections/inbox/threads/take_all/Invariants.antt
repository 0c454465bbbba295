use Rattle.std.proofs.Common.{◌≡◌}
use Rattle.test_cases.proofs.elections.inbox.threads.take_all.Given as goal

abbrev pub invariant-loop-number : goal.invariant-loop-number
invariant-loop-number g l = l.receiver.inbox ≡ l.fn.receiver.inbox
