use Rattle.ring_grammar.proofs.Numbers.{reads_number}
use Rattle.ring_grammar.proofs.values.node_number.Goals as goal

pub returns : goal.returns
returns c = reads_number c.args.word.now c.in_ok-number.field-0 c.new.result c.in_ok-number.ensures c.new.ensures.there c.new.ensures.value
