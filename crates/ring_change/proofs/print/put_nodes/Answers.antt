use Rattle.std.specs.Prelude.{◌∷◌}
use Rattle.std.proofs.lemmas.Result.{on_err_weaker, on_ok_weaker}
use Rattle.ring_grammar.specs.Identities.{node_word}
use Rattle.ring_change.proofs.Putting.{on_err_anyway}
use Rattle.ring_change.proofs.print.put_nodes.Goals as goal

pub returns-in_err-put_node-clause-err : goal.returns-in_err-put_node-clause-err
returns-in_err-put_node-clause-err g c = on_err_anyway c.from_residual.result (g.met.S.Sink.laws.front _ _ _ (32 ∷ node_word c.args.second) c.in_err-put_node.ensures.err)

pub returns-clause-ok : goal.returns-clause-ok
returns-clause-ok g c = on_ok_weaker c.put_node-2.result (g.met.S.Sink.laws.then _ _ _ _ _ c.in_ok-put_node.ensures.ok) c.put_node-2.ensures.ok

pub returns-clause-err : goal.returns-clause-err
returns-clause-err g c = on_err_weaker c.put_node-2.result (g.met.S.Sink.laws.then_front _ _ _ _ _ c.in_ok-put_node.ensures.ok) c.put_node-2.ensures.err
