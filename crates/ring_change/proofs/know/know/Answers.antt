use Rattle.ring_change.proofs.Reading.{too_many_words}
use Rattle.ring_change.proofs.know.know.Goals as goal

pub returns-in-Some : goal.returns-in-Some
returns-in-Some c = λ change legal same.
    too_many_words change c.args.line.now c.in_ok-word.rest.now c.in_ok-group.rest.now c.in_ok-term.rest.now c.in_ok-member.leader.now c.in-Some.field-0.1.now _ _ _ _ _ legal
    c.in_ok-word.ensures.some c.in_ok-group.ensures.some c.in_ok-term.ensures.some c.in_ok-member.ensures.some c.in-Some.ensures.some same
