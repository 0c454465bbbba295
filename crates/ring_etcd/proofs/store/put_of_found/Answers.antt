use Rattle.std.proofs.Common.{rules}
use Rattle.ring_etcd.proofs.store.put_of_found.Goals as goal

pub returns : goal.returns
returns c = search rules
