use Rattle.ring_grammar.proofs.Asking.{asked_read, unasked-uncounted, unasked-uncut, unasked-unnamed}
use Rattle.ring_grammar.proofs.parse.who.Goals as goal

pub returns-in_err-number : goal.returns-in_err-number
returns-in_err-number c = rw c.from_residual-in_err-number.ensures (unasked-uncounted c.args.rest.now c.in_ok-group.group.now c.in_ok-group.argument.now c.in_ok-group.ensures.some c.in_err-number.ensures)

pub returns : goal.returns
returns c = asked_read c.args.rest.now c.in_ok-group.group.now c.in_ok-group.argument.now c.in_ok-group-2.group c.in_ok-number.number c.in_ok-group.ensures.some c.in_ok-group-2.ensures c.in_ok-number.ensures

-- There is no space, so there is one word.
pub returns-in_err-group : goal.returns-in_err-group
returns-in_err-group c = rw c.from_residual.ensures (unasked-uncut c.args.rest.now c.in_err-group.ensures.none)

-- The text before the space is no name.
pub returns-in_err-group-2 : goal.returns-in_err-group-2
returns-in_err-group-2 c = rw c.from_residual-in_err-group-2.ensures (unasked-unnamed c.args.rest.now c.in_ok-group.group.now c.in_ok-group.argument.now c.in_ok-group.ensures.some c.in_err-group-2.ensures)
