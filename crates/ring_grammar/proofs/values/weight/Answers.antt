use Rattle.std.proofs.Common.{arith}
use Rattle.ring_grammar.proofs.Numbers.{printed_of_one}
use Rattle.ring_grammar.proofs.values.weight.Goals as goal

pub returns-in_default : goal.returns-in_default
returns-in_default c = λ n legal printed.
    let read = c.in_ok-number.ensures in
    let same = printed_of_one c.args.text.now c.in_ok-number.field-0 n read.0 (omega (arith, legal.1)) read.1 printed in
    c.in_default.ensures (omega (arith, same, legal.1))

pub returns-then-weight-eq0 : goal.returns-then-weight-eq0
returns-then-weight-eq0 c = λ n legal printed.
    let read = c.in_ok-number.ensures in
    let same = printed_of_one c.args.text.now c.in_ok-number.field-0 n read.0 (omega (arith, legal.1)) read.1 printed in
    absurd (omega (arith, same, legal.0, c.in-Ok.ensures.1, c.if-weight-eq0.true))
