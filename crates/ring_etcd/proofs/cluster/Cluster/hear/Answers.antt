use Rattle.std.proofs.Common.{rules}
use Rattle.ring_etcd.proofs.cluster.Cluster.hear.Goals as goal

pub returns-clause-err : goal.returns-clause-err
returns-clause-err g c = search rules
