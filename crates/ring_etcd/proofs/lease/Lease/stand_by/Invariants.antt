use Rattle.std.proofs.Common.{◌≤◌}
use Rattle.ring_etcd.proofs.lease.Lease.stand_by.Given as goal

-- no reply is forgotten
abbrev pub invariant-loop : goal.invariant-loop
invariant-loop g l = l.fn.self.heard ≤ l.self.heard
