use Rattle.std.proofs.Common.{◌≡◌}
use Rattle.ring_etcd.proofs.looking.find.Given as goal

-- the keys are as before
abbrev pub invariant-loop : goal.invariant-loop
invariant-loop g l = l.store.keys ≡ l.fn.store.keys
