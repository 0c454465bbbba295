use Rattle.std.proofs.Common.{ap, rules}
use Rattle.ring_etcd.proofs.Held.{put_all, put_len}
use Rattle.ring_etcd.proofs.medium.EtcdMediumMedium.sync.Goals as goal

pub returns-in-Ok-clause-text : goal.returns-in-Ok-clause-text
returns-in-Ok-clause-text g c =
    put_all _ _ _ _ _ c.in-Ok.ensures.ok c.clear.ensures.items (ap (λ v. v.text) c.self.view_is)

pub returns-in-Ok-clause-kept : goal.returns-in-Ok-clause-kept
returns-in-Ok-clause-kept g c =
    put_len _ _ _ _ c.in-Ok.ensures.ok (ap (λ v. v.text) c.self.view_is)

pub returns-in-Err-NoMemory-clause-text : goal.returns-in-Err-NoMemory-clause-text
returns-in-Err-NoMemory-clause-text g c = search rules
