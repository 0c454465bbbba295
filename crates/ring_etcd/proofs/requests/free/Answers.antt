use Rattle.std.proofs.Common.{rules}
use Rattle.ring_etcd.proofs.requests.free.Goals as goal

pub returns : goal.returns
returns c = search rules
