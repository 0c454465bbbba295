use Rattle.std.proofs.Common.{◌≡◌}
use Rattle.ring_etcd.proofs.place.taken_over.Given as goal

-- the keys are as before
abbrev pub invariant-loop : goal.invariant-loop
invariant-loop g l = l.store.keys ≡ l.fn.store.keys
