use Rattle.ring_etcd.proofs.Texts.{entry_is}
use Rattle.ring_etcd.proofs.requests.put_entry.Goals as goal

pub returns : goal.returns
returns c =
    entry_is c.args.slot.base_key.now c.args.slot.base.now c.args.slot.key.now c.args.value.now _ _ _
    c.in_ok-compare.ensures c.in_ok-failure.ensures c.in_ok-text.ensures.ok
