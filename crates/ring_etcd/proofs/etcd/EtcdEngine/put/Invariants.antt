use Rattle.std.proofs.Common.{◌≡◌}
use Rattle.ring_etcd.proofs.etcd.EtcdEngine.put.Given as goal

abbrev pub invariant-loop : goal.invariant-loop
invariant-loop g l = l.self ≡ l.fn.self
