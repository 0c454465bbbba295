use Rattle.std.proofs.Common.{rules}
use Rattle.ring_etcd.proofs.replies.is_done.Goals as goal

pub returns : goal.returns
returns c = search rules
