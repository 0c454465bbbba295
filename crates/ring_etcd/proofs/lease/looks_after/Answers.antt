use Rattle.std.proofs.Common.{rules}
use Rattle.ring_etcd.proofs.lease.looks_after.Goals as goal

pub returns-else-revision-old : goal.returns-else-revision-old
returns-else-revision-old c = search rules
