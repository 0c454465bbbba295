-- The weight 0 is spelled by nothing.
use Rattle.ring_grammar.proofs.print.put_weight.Goals as goal

pub returns-then-weight-eq0-clause-ok : goal.returns-then-weight-eq0-clause-ok
returns-then-weight-eq0-clause-ok g c = rw c.if-weight-eq0.true (g.met.W.Sink.laws.none c.args.out.now)

-- It can't fail.
pub returns-then-weight-eq0-clause-err : goal.returns-then-weight-eq0-clause-err
returns-then-weight-eq0-clause-err g c = tt
