use Rattle.std.specs.Prelude.{◌++◌, codes}
use Rattle.std.proofs.lemmas.Result.{on_err_weaker, on_ok_weaker}
use Rattle.ring_grammar.specs.Spelling.{leader_word}
use Rattle.ring_grammar.proofs.Putting.{on_err_anyway, on_ok_anyway}
use Rattle.ring_grammar.proofs.print.put_term.Goals as goal

pub returns-in_err-put_number-clause-err : goal.returns-in_err-put_number-clause-err
returns-in_err-put_number-clause-err g c =
    on_err_anyway c.from_residual.result (g.met.W.Sink.laws.front _ _ _ (codes ":" ++ leader_word c.args.leader) c.in_err-put_number.ensures.err)

pub returns-in-Some-clause-ok : goal.returns-in-Some-clause-ok
returns-in-Some-clause-ok g c =
    rw c.in-Some.is (on_ok_weaker c.put_node.result (g.met.W.Sink.laws.then _ _ _ _ _ c.in_ok-put_number.ensures.ok) c.put_node.ensures.ok)

pub returns-in-Some-clause-err : goal.returns-in-Some-clause-err
returns-in-Some-clause-err g c =
    rw c.in-Some.is (on_err_weaker c.put_node.result (g.met.W.Sink.laws.then_front _ _ _ _ _ c.in_ok-put_number.ensures.ok) c.put_node.ensures.err)

pub returns-in-None-clause-ok : goal.returns-in-None-clause-ok
returns-in-None-clause-ok g c =
    rw c.in-None.is (on_ok_weaker c.put.result (g.met.W.Sink.laws.then _ _ _ _ _ c.in_ok-put_number.ensures.ok) c.put.ensures.ok)

pub returns-in-None-clause-err : goal.returns-in-None-clause-err
returns-in-None-clause-err g c =
    rw c.in-None.is (on_err_weaker c.put.result (g.met.W.Sink.laws.then_front _ _ _ _ _ c.in_ok-put_number.ensures.ok) c.put.ensures.err)

pub returns-in-Some-clause-legal : goal.returns-in-Some-clause-legal
returns-in-Some-clause-legal g c = rw c.in-Some.is (on_ok_anyway c.put_node.result c.put_node.ensures.legal)

pub returns-in-None-clause-legal : goal.returns-in-None-clause-legal
returns-in-None-clause-legal g c = rw c.in-None.is (on_ok_anyway c.put.result tt)
