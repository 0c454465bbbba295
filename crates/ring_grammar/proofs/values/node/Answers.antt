use Rattle.ring_grammar.proofs.Identities.{reads_cut, reads_uncut, unread_front, unread_rest, unread_uncut}
use Rattle.ring_grammar.proofs.values.node.Goals as goal

pub returns-in_err-number-in-Some : goal.returns-in_err-number-in-Some
returns-in_err-number-in-Some c = rw c.from_residual.ensures (unread_front _ _ c.in-Some.rest.now c.in-Some.ensures.some c.in_err-number-in-Some.ensures)

pub returns-in_err-weight-in-Some : goal.returns-in_err-weight-in-Some
returns-in_err-weight-in-Some c = rw c.from_residual-in_err-weight-in-Some.ensures (unread_rest _ c.in-Some.front.now c.in-Some.rest.now c.in-Some.ensures.some c.in_err-weight-in-Some.ensures)

pub returns-in_err-number-in-None : goal.returns-in_err-number-in-None
returns-in_err-number-in-None c = rw c.from_residual-in_err-number-in-None.ensures (unread_uncut _ c.in-None.ensures.none c.in_err-number-in-None.ensures)

pub returns-in_ok-weight-in-Some : goal.returns-in_ok-weight-in-Some
returns-in_ok-weight-in-Some c = reads_cut c.args.word.now c.in-Some.front.now c.in-Some.rest.now c.in_ok-number-in-Some.field-0 c.in_ok-weight-in-Some.field-0 c.weighted.result
    c.in-Some.ensures.some c.in_ok-number-in-Some.ensures c.in_ok-weight-in-Some.ensures c.weighted.ensures.there c.weighted.ensures.value

pub returns-in_ok-number-in-None : goal.returns-in_ok-number-in-None
returns-in_ok-number-in-None c = reads_uncut c.args.word.now c.in_ok-number-in-None.field-0 c.new.result c.in-None.ensures.none c.in_ok-number-in-None.ensures c.new.ensures.there c.new.ensures.value
