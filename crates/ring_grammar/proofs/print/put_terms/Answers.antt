use Rattle.std.proofs.Common.{◌+◌, codes, arith}
use Rattle.std.specs.Prelude.{IfSome}
use Rattle.ring_grammar.specs.Identities.{IsNode}
use Rattle.ring_grammar.specs.Spelling.{term_word, term_words}
use Rattle.ring_grammar.proofs.Putting.{legal_all, legal_more, at_terms, length-term_words, on_err_anyway, put_last, put_next, put_none, put_stopped}
use Rattle.ring_grammar.proofs.print.put_terms.Goals as goal

pub returns-in_err-put-clause-err : goal.returns-in_err-put-clause-err
returns-in_err-put-clause-err g c =
    on_err_anyway c.from_residual.result (put_none g.met.W.Sink.laws (codes "terms") (term_words 1 c.args.leaders.now) c.in_err-put.ensures.err)

pub returns-in_err-put_term-clause-err : goal.returns-in_err-put_term-clause-err
returns-in_err-put_term-clause-err g c =
    on_err_anyway c.from_residual-in_err-put_term.result
    (put_stopped g.met.W.Sink.laws (codes "terms") (term_words 1 c.args.leaders.now) c.loop-index.index (term_word (c.loop-index.index + 1) c.index-leaders-index.result)
    (at_terms 1 c.args.leaders.now _ _ _ (omega arith) (record { below = c.loop-index-test.true; is = c.index-leaders-index.is }))
    c.loop-index.invariant.put c.in_err-put_term.ensures.err)

pub loop-index-preserved : goal.loop-index-preserved
loop-index-preserved g c = record {
  put =
      put_next g.met.W.Sink.laws (codes "terms") (term_words 1 c.args.leaders.now) c.loop-index.index (term_word (c.loop-index.index + 1) c.index-leaders-index.result)
      (at_terms 1 c.args.leaders.now _ _ _ (omega arith) (record { below = c.loop-index-test.true; is = c.index-leaders-index.is }))
      c.loop-index.invariant.put c.in_ok-put_term.ensures.ok;
  legal = legal_more (λ leader. IfSome leader IsNode) c.args.leaders.now c.loop-index.index c.index-leaders-index.result (record { below = c.loop-index-test.true; is = c.index-leaders-index.is }) c.loop-index.invariant.legal (c.in_ok-put_term.ensures.legal);
}

pub returns-clause-ok : goal.returns-clause-ok
returns-clause-ok g c =
    put_last g.met.W.Sink.laws (codes "terms") (term_words 1 c.args.leaders.now) c.loop-index.index
    (omega (arith, length-term_words 1 c.args.leaders.now)) c.loop-index.invariant.put

pub returns-clause-legal : goal.returns-clause-legal
returns-clause-legal g c = legal_all (λ leader. IfSome leader IsNode) c.args.leaders.now c.loop-index.index (omega arith) c.loop-index.invariant.legal
