use Rattle.std.proofs.Common.{◌≡◌}
use Rattle.ring_etcd.proofs.cluster.Cluster.ask.Given as goal

-- the attempts so far heard no reply
abbrev pub invariant-loop-attempt : goal.invariant-loop-attempt
invariant-loop-attempt g l = l.self.heard ≡ l.fn.self.heard
