use Rattle.ring_etcd.proofs.Pairing.{page_is}
use Rattle.ring_etcd.proofs.replies.PageAnswer.read.Goals as goal

pub returns-in_ok-pairs-in-Some : goal.returns-in_ok-pairs-in-Some
returns-in_ok-pairs-in-Some c =
    page_is _ c.in-Some.found.now.items c.deref.result.now c.in_ok-pairs-in-Some.pairs.items c.in-Some.ensures
    c.deref.ensures.value c.in_ok-pairs-in-Some.ensures
