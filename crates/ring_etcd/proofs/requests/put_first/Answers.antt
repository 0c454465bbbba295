use Rattle.ring_etcd.proofs.Texts.{first_is}
use Rattle.ring_etcd.proofs.requests.put_first.Goals as goal

pub returns : goal.returns
returns c =
    first_is c.args.key.now c.args.value.now c.args.from.now c.args.to.now _ _
    c.in_ok-free.ensures c.in_ok-text.ensures.ok
