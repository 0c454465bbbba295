use Rattle.std.proofs.Common.{rules}
use Rattle.ring_etcd.proofs.lease.Lease.renew.Goals as goal

pub returns-clause-held : goal.returns-clause-held
returns-clause-held g c = search rules
