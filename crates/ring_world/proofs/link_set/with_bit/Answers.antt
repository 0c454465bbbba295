-- One bit is set or cleared.
use Rattle.std.proofs.Common.{w64}
use Rattle.std.proofs.lemmas.Nat.Bits.{bit_at_clear_other, bit_at_clear_same, bit_at_set_other, bit_at_set_same}
use Rattle.ring_world.proofs.link_set.with_bit.Goals as goal

pub returns-then-here-clause-here : goal.returns-then-here-clause-here
returns-then-here-clause-here c = rw c.if-here.true (bit_at_set_same w64 c.args.word c.args.place c.requires)

pub returns-then-here-clause-others : goal.returns-then-here-clause-others
returns-then-here-clause-others c = λ other _ differ. bit_at_set_other w64 c.args.word c.args.place c.requires other differ

pub returns-else-here-clause-here : goal.returns-else-here-clause-here
returns-else-here-clause-here c = rw c.if-here.false (bit_at_clear_same w64 c.args.word c.args.place c.requires)

pub returns-else-here-clause-others : goal.returns-else-here-clause-others
returns-else-here-clause-others c = λ other low differ. bit_at_clear_other w64 c.args.word c.args.place c.requires other low differ
