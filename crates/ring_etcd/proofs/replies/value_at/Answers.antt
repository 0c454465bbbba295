use Rattle.ring_etcd.proofs.Values.{value_is}
use Rattle.ring_etcd.proofs.replies.value_at.Goals as goal

pub returns-in-Ok : goal.returns-in-Ok
returns-in-Ok c = value_is _ _ _ c.in-Some.ensures c.as_bytes.ensures.value c.in-Ok.ensures.ok
