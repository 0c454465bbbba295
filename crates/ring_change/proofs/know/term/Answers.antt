use Rattle.std.proofs.Common.{arith}
use Rattle.ring_change.proofs.Reading.{term_long, term_read}
use Rattle.ring_change.proofs.know.term.Goals as goal

pub returns-in_default : goal.returns-in_default
returns-in_default c = term_long c.args.word.now c.in_ok-number.field-0 c.in_ok-number.ensures (λ few. c.in_default.ensures (omega (arith, c.get.ensures.value, few)))

pub returns : goal.returns
returns c =
    term_read c.args.word.now c.in_ok-number.field-0 c.in-Ok.number c.new.result c.in_ok-number.ensures (omega (arith, c.in-Ok.ensures.1, c.get.ensures.value))
    c.new.ensures.there c.new.ensures.value
