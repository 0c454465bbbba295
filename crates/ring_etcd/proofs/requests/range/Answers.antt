use Rattle.std.proofs.Common.{rules}
use Rattle.ring_etcd.proofs.requests.range.Goals as goal

pub returns : goal.returns
returns c = search rules
