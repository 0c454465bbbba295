use Rattle.ring_etcd.proofs.Texts.{switch_is}
use Rattle.ring_etcd.proofs.requests.switch.Goals as goal

pub returns : goal.returns
returns c =
    switch_is c.args.slot.base_key.now c.args.slot.base.now c.args.slot.key.now c.args.base.now
    c.args.from.now c.args.to.now _ _ _ _ c.in_ok-compare.ensures c.in_ok-success.ensures
    c.in_ok-failure.ensures c.in_ok-text.ensures.ok
