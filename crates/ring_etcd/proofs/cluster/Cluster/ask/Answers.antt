use Rattle.std.proofs.Common.{subst}
use Rattle.std.specs.Prelude.{IfOk}
use Rattle.ring_etcd.specs.Hearing.{Hears}
use Rattle.ring_etcd.proofs.cluster.Cluster.ask.Goals as goal

pub returns-then-is_ok-clause-ok : goal.returns-then-is_ok-clause-ok
returns-then-is_ok-clause-ok g c =
    subst (λ old. IfOk c.ask_once-answer.result (λ answer. Hears (λ json. g.T.Answer.says json answer) old c.ask_once-answer.new.self.heard c.ask_once-answer.new.self.last.items))
    c.loop-attempt.invariant c.ask_once-answer.ensures.ok
