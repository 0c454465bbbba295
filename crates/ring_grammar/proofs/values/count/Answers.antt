use Rattle.std.proofs.Common.{arith}
use Rattle.ring_grammar.proofs.Numbers.{printed_of_one}
use Rattle.ring_grammar.proofs.values.count.Goals as goal

pub returns-else-count-le-MOST_DELIVERIES : goal.returns-else-count-le-MOST_DELIVERIES
returns-else-count-le-MOST_DELIVERIES c = λ n legal printed.
    let h = c.in_ok-count.ensures in
    let same = printed_of_one c.args.word.now c.in_ok-count.count n h.0 (omega arith) h.1 printed in
    absurd (omega arith)
