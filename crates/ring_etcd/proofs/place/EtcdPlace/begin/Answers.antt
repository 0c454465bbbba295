use Rattle.std.proofs.Common.{◌∙◌}
use Rattle.ring_etcd.proofs.Held.{begun}
use Rattle.ring_etcd.proofs.place.EtcdPlace.begin.Goals as goal

pub returns : goal.returns
returns g c = c.new.ensures ∙ begun _ _ _ c.in_ok-etcd.ensures c.in_ok-pending.ensures.items
