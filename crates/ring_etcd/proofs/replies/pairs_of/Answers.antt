use Rattle.std.proofs.lemmas.Grind.{common_steps}
use Rattle.std.proofs.Common.{arith}
use Rattle.ring_etcd.proofs.Pairing.{next_pair}
use Rattle.ring_etcd.proofs.replies.pairs_of.Goals as goal

pub loop-item-preserved : goal.loop-item-preserved
loop-item-preserved c =
    next_pair c.args.found.now c.loop-item.item-index c.item-item.result c.loop-item.pairs.items c.push.new.self.items
    c.in_ok-pair.pair c.loop-item-test.true c.loop-item.invariant c.item-item.is c.in_ok-pair.ensures c.in-Ok.ensures.items

pub returns : goal.returns
returns c = grind (arith, common_steps)
