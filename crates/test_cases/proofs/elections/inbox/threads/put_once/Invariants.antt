use Rattle.std.proofs.Common.{◌≡◌}
use Rattle.test_cases.proofs.elections.inbox.threads.put_once.Given as goal

abbrev pub invariant-loop : goal.invariant-loop
invariant-loop g l = l.pass.inbox ≡ l.fn.pass.inbox
