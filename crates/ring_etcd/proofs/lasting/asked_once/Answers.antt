use Rattle.ring_etcd.proofs.Following.{repeats_pass, taken_refuses}
use Rattle.ring_etcd.proofs.lasting.asked_once.Goals as goal

pub returns-clause-taken : goal.returns-clause-taken
returns-clause-taken c = taken_refuses

pub returns-clause-again : goal.returns-clause-again
returns-clause-again c = repeats_pass
