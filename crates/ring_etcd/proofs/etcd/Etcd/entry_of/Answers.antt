use Rattle.std.proofs.Common.{rules}
use Rattle.ring_etcd.proofs.etcd.Etcd.entry_of.Goals as goal

pub returns : goal.returns
returns g c = search rules
