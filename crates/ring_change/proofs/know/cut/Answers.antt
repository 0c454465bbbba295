use Rattle.ring_change.proofs.Cutting.{words_in-cut, words_in-uncut}
use Rattle.ring_change.proofs.know.cut.Goals as goal

pub returns-in-Some-clause-some : goal.returns-in-Some-clause-some
returns-in-Some-clause-some c = words_in-cut c.args.text.now c.in-Some.at c.in-Some.ensures

pub returns-in-None-clause-none : goal.returns-in-None-clause-none
returns-in-None-clause-none c = words_in-uncut c.args.text.now c.in-None.ensures
