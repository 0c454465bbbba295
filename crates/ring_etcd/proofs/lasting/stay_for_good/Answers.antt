use Rattle.ring_etcd.proofs.Following.{never_return, one_value}
use Rattle.ring_etcd.proofs.Whole.{values_stay}
use Rattle.ring_etcd.proofs.lasting.stay_for_good.Goals as goal

pub returns-clause-stay : goal.returns-clause-stay
returns-clause-stay c = values_stay

pub returns-clause-one : goal.returns-clause-one
returns-clause-one c = one_value

pub returns-clause-gone : goal.returns-clause-gone
returns-clause-gone c = never_return
