use Rattle.std.proofs.Common.{subst}
use Rattle.std.specs.Prelude.{IfOk}
use Rattle.ring_etcd.specs.Hearing.{Hears}
use Rattle.ring_etcd.proofs.cluster.Cluster.ask_once.Goals as goal

pub returns-clause-ok : goal.returns-clause-ok
returns-clause-ok g c =
    subst (λ old. IfOk c.hear.result (λ answer. Hears (λ json. g.T.Answer.says json answer) old c.hear.new.self.heard c.hear.new.self.last.items))
    c.reply_to.ensures c.hear.ensures.ok
