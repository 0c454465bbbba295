use Rattle.ring_grammar.proofs.Words.{too_many_words}
use Rattle.ring_grammar.proofs.parse.any_event.Goals as goal

pub returns-in-Some-cut-3 : goal.returns-in-Some-cut-3
returns-in-Some-cut-3 c = λ event legal same.
    too_many_words event c.args.line.now c.in-Some.rest.now c.in-Some-cut.rest.now c.in-Some-cut-2.rest.now c.in-Some-cut-3.field-0.1.now _ _ _ _
    c.in-Some.ensures.some c.in-Some-cut.ensures.some c.in-Some-cut-2.ensures.some c.in-Some-cut-3.ensures.some same
