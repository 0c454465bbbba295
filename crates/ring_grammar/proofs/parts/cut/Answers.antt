use Rattle.ring_grammar.proofs.Cutting.{parts_at-cut, parts_at-uncut}
use Rattle.ring_grammar.proofs.parts.cut.Goals as goal

pub returns-in-Some-clause-some : goal.returns-in-Some-clause-some
returns-in-Some-clause-some c = parts_at-cut c.args.separator c.args.text.now c.in-Some.at c.in-Some.ensures

pub returns-in-None-clause-none : goal.returns-in-None-clause-none
returns-in-None-clause-none c = parts_at-uncut c.args.separator c.args.text.now c.in-None.ensures
