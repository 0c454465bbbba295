use Rattle.ring_etcd.proofs.Following.{marks_follow, texts_follow}
use Rattle.ring_etcd.proofs.lasting.nothing_is_lost.Goals as goal

pub returns-clause-mark : goal.returns-clause-mark
returns-clause-mark c = marks_follow

pub returns-clause-text : goal.returns-clause-text
returns-clause-text c = texts_follow
