use Rattle.std.proofs.Common.{rules}
use Rattle.ring_etcd.proofs.etcd.EtcdEngine.begin.Goals as goal

pub returns-clause-ok : goal.returns-clause-ok
returns-clause-ok g c = search rules
