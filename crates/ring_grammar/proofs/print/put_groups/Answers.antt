use Rattle.std.proofs.Common.{codes, arith}
use Rattle.ring_id.specs.GroupName.{IsName}
use Rattle.ring_grammar.proofs.Putting.{legal_all, legal_more, at_same, on_err_anyway, put_last, put_next, put_none, put_stopped}
use Rattle.ring_grammar.proofs.print.put_groups.Goals as goal

pub returns-in_err-put-clause-err : goal.returns-in_err-put-clause-err
returns-in_err-put-clause-err g c = on_err_anyway c.from_residual.result (put_none g.met.W.Sink.laws (codes "groups") c.args.names.now c.in_err-put.ensures.err)

pub returns-in_err-put_both-clause-err : goal.returns-in_err-put_both-clause-err
returns-in_err-put_both-clause-err g c =
    on_err_anyway c.from_residual-in_err-put_both.result
    (put_stopped g.met.W.Sink.laws (codes "groups") c.args.names.now c.loop-name.name-index c.bytes.result.now
    (at_same _ _ _ _ c.bytes.ensures.value (record { below = c.loop-name-test.true; is = c.name-item.is }))
    c.loop-name.invariant.put c.in_err-put_both.ensures.err)

pub loop-name-preserved : goal.loop-name-preserved
loop-name-preserved g c = record {
  put =
      put_next g.met.W.Sink.laws (codes "groups") c.args.names.now c.loop-name.name-index c.bytes.result.now
      (at_same _ _ _ _ c.bytes.ensures.value (record { below = c.loop-name-test.true; is = c.name-item.is }))
      c.loop-name.invariant.put c.in_ok-put_both.ensures.ok;
  legal = legal_more IsName c.args.names.now c.loop-name.name-index _ (record { below = c.loop-name-test.true; is = c.name-item.is }) c.loop-name.invariant.legal (rw c.bytes.ensures.value at c.bytes.ensures.name);
}

pub returns-clause-ok : goal.returns-clause-ok
returns-clause-ok g c = put_last g.met.W.Sink.laws (codes "groups") c.args.names.now c.loop-name.name-index (omega arith) c.loop-name.invariant.put

pub returns-clause-legal : goal.returns-clause-legal
returns-clause-legal g c = legal_all IsName c.args.names.now c.loop-name.name-index (omega arith) c.loop-name.invariant.legal
