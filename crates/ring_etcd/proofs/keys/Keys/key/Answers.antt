use Rattle.std.proofs.Common.{rules}
use Rattle.ring_etcd.proofs.keys.Keys.key.Goals as goal

pub returns : goal.returns
returns c = search rules
