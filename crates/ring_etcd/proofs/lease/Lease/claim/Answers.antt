use Rattle.std.proofs.Common.{rules}
use Rattle.ring_etcd.proofs.lease.Lease.claim.Goals as goal

pub returns-clause-told : goal.returns-clause-told
returns-clause-told g c = search rules
