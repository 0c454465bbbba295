use Rattle.std.proofs.Common.{codes, map, arith}
use Rattle.std.proofs.lemmas.List.{length-map}
use Rattle.ring_grammar.specs.Identities.{IsNode, node_word}
use Rattle.ring_grammar.proofs.Putting.{legal_all, legal_more, at_map, on_err_anyway, put_last, put_next, put_none, put_stopped}
use Rattle.ring_grammar.proofs.print.put_members.Goals as goal

pub returns-in_err-put-clause-err : goal.returns-in_err-put-clause-err
returns-in_err-put-clause-err g c =
    on_err_anyway c.from_residual.result (put_none g.met.W.Sink.laws (codes "members") (map node_word c.args.members.now) c.in_err-put.ensures.err)

pub returns-in_err-put_node-clause-err : goal.returns-in_err-put_node-clause-err
returns-in_err-put_node-clause-err g c =
    on_err_anyway c.from_residual-in_err-put_node.result
    (put_stopped g.met.W.Sink.laws (codes "members") (map node_word c.args.members.now) _ _
    (at_map node_word _ _ _ (record { below = c.loop-member-test.true; is = c.member-item.is }))
    c.loop-member.invariant.put c.in_err-put_node.ensures.err)

pub loop-member-preserved : goal.loop-member-preserved
loop-member-preserved g c = record {
  put =
      put_next g.met.W.Sink.laws (codes "members") (map node_word c.args.members.now) _ _
      (at_map node_word _ _ _ (record { below = c.loop-member-test.true; is = c.member-item.is }))
      c.loop-member.invariant.put c.in_ok-put_node.ensures.ok;
  legal = legal_more IsNode c.args.members.now c.loop-member.member-index _ (record { below = c.loop-member-test.true; is = c.member-item.is }) c.loop-member.invariant.legal (c.put_node.ensures.legal);
}

pub returns-clause-ok : goal.returns-clause-ok
returns-clause-ok g c =
    put_last g.met.W.Sink.laws (codes "members") (map node_word c.args.members.now) c.loop-member.member-index
    (omega (arith, length-map c.args.members.now node_word)) c.loop-member.invariant.put

pub returns-clause-legal : goal.returns-clause-legal
returns-clause-legal g c = legal_all IsNode c.args.members.now c.loop-member.member-index (omega arith) c.loop-member.invariant.legal
